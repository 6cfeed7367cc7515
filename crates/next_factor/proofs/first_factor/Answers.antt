-- `first_factor` meets its contract: no request for F(n) is refused (Delivered).
use native.Mathlib.Omega.{arith}
use Rattle.next_factor.proofs.Delivered.{told_small, first-is}
use Rattle.next_factor.proofs.first_factor.Goals as goal

pub overflow_add-result : goal.overflow_add-result
overflow_add-result c =
    let p = c in
    record {
      fits = omega (
        arith,
        told_small p.args.n p.requires.0 p.args.b.now p.requires.1 c.polynomial-made.ensures.value,
      );
    }

pub returns : goal.returns
returns c =
    let p = c in
    let made = c.polynomial-made in
    first-is p.args.n p.requires.0 p.args.b.now p.requires.1 p.requires.2 made.ensures.value made.ensures.buf_after
    c.unsigned_abs.ensures.value

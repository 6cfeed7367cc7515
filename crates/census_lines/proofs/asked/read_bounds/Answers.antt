-- `census_lines::asked::read_bounds` meets its contract, part by part (`Reading`).
use Rattle.std.proofs.Common.{sym, arith}
use borrow.Author.Tests.{eq-eqb, ne_eqb}
use Rattle.digits.proofs.Digits.{nine_range}
use Rattle.census_lines.proofs.Reading.{no_first, no_space, no_second, reads_all}
use Rattle.census_lines.proofs.asked.read_bounds.Goals as goal

pub returns-in_err-p : goal.returns-in_err-p
returns-in_err-p c = rw c.from_residual.ensures (sym (no_first _ c.in_err-p.ensures))

pub returns-then-byte_at-ne32 : goal.returns-then-byte_at-ne32
returns-then-byte_at-ne32 c =
    let gap = ne_eqb _ _ c.if-byte_at-ne32.true in
    sym (no_space _ (rw (c.byte_at.ensures, c.in_ok-p.ensures.1) at gap))

pub returns-in_err-q : goal.returns-in_err-q
returns-in_err-q c =
    rw c.from_residual-in_err-q.ensures (sym (no_second _ (rw c.in_ok-p.ensures.1 at c.in_err-q.ensures)))

pub overflow_add-whole-2 : goal.overflow_add-whole-2
overflow_add-whole-2 c =
    let p = c.in_ok-p.ensures in
    let q = c.in_ok-q.ensures in
    omega (arith, nine_range _ p.0, p.1, nine_range _ q.0, q.1)

pub returns : goal.returns
returns c =
    reads_all _ _ _ _ _ _ c.in_ok-p.ensures (rw c.byte_at.ensures at (eq-eqb _ _ c.if-byte_at-ne32.false))
    c.in_ok-q.ensures c.then_some.ensures

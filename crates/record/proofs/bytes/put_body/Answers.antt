-- `put_body`: what is left to store, stored from entry i on, gives the whole body stored from 10 on (Passes).
use Rattle.std.proofs.Common.{◌+◌, ◌*◌, ◌∙◌, sym, ap, arith, get_or, nat_abs, pos}
use Rattle.heights.proofs.Signs.{passed}
use Rattle.widths.proofs.Lowest.{entry_height}
use Rattle.record.proofs.Passes.{body-turn, body-none, next_place, length-body, room}
use Rattle.record.proofs.bytes.put_body.Goals as goal

pub twos_of-requires : goal.twos_of-requires
twos_of-requires g c =
    let x = get_or c.args.coeffs.now c.loop-i.i (pos 0) in (
      c.requires.0,
      c.requires.1,
      omega (arith, ap nat_abs (passed x c.twos_of-arg-1.given), entry_height c.args.coeffs.now c.loop-i.i),
    )

pub put-requires : goal.put-requires
put-requires g c =
    let a = c.args in
    omega (arith, length-body g.row.W a.coeffs.now, room g.row.W _ c.loop-i.i c.loop-i-test.true)

pub loop-i-preserved : goal.loop-i-preserved
loop-i-preserved g c =
    let a = c.args in
    let x = get_or a.coeffs.now c.loop-i.i (pos 0) in
    rw (c.put.ensures, c.twos_of.ensures, passed x c.twos_of-arg-1.given, next_place g.row.W c.loop-i.i)
    (body-turn g.row.W a.coeffs.now c.loop-i.bytes (10 + c.loop-i.i * g.row.W) c.loop-i.i c.loop-i-test.true
    ∙ c.loop-i.invariant)

pub returns : goal.returns
returns g c =
    let a = c.args in
    sym (body-none g.row.W a.coeffs.now c.loop-i.bytes _ c.loop-i.i c.loop-i-test.false) ∙ c.loop-i.invariant

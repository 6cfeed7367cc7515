-- `put_at`: what is left to store, stored from entry i on, gives the whole other half stored (Places).
use Rattle.std.proofs.Common.{◌≤◌, sym, ap, ◌∙◌, arith}
use Rattle.definitions.specs.Halves.{half_of, image}
use Rattle.widths.specs.Numbers.{twos}
use Rattle.half_passes.proofs.Places.{other-turn, other_none}
use Rattle.half_passes.proofs.put_at.Goals as goal

pub loop-i-preserved : goal.loop-i-preserved
loop-i-preserved g c =
    let a = c.args in
    let w = g.row.W in
    let past : half_of a.count ≤ c.loop-i.i = omega (arith, c.len-i.ensures, c.requires.0) in
    rw c.put.ensures
    (other-turn a.negate w a.count c.loop-i.i a.half.now c.loop-i.out c.loop-i-test.true past
    (c.image_of.ensures ∙ ap (λ z. twos w (image a.negate z)) c.number-v.ensures.1)
    ∙ c.loop-i.invariant)

pub returns : goal.returns
returns g c =
    let a = c.args in
    sym (other_none a.negate g.row.W a.count c.loop-i.i a.half.now c.loop-i.out c.loop-i-test.false)
    ∙ c.loop-i.invariant

-- `fill`: what is left to store, stored from `i` on, gives all of it stored from 0 on (Passes).
use Rattle.std.proofs.Common.{◌≡◌, ◌++◌, ◌∙◌, sym, ap, drop, take, length, length-take-le, arith}
use Rattle.heights.proofs.Signs.{passed}
use Rattle.widths.proofs.Least.{width_bounds}
use Rattle.record.proofs.Passes.{fill_turn, fill_none, sets_front}
use Rattle.record.proofs.body.Body.fill.Goals as goal

pub signed_of-requires : goal.signed_of-requires
signed_of-requires g c =
    let b = width_bounds g.row.W c.number.ensures.0 in
    (b.0, b.1, c.number.ensures.2)

pub loop-i-preserved : goal.loop-i-preserved
loop-i-preserved g c =
    let a = c.args in
    let n = c.len.result in
    let room : length (take n a.coeffs.now) ≡ n = length-take-le n a.coeffs.now (omega (arith, c.len.ensures)) in
    fill_turn c.loop-i.i a.self.now c.loop-i.c-items (omega (arith, room, c.len.ensures))
    (passed c.signed_of.result c.signed_of.type_inv ∙ c.signed_of.ensures ∙ c.number.ensures.1)
    ∙ c.loop-i.invariant

pub returns : goal.returns
returns g c =
    let a = c.args in
    let n = c.len.result in
    let room : length (take n a.coeffs.now) ≡ n = length-take-le n a.coeffs.now (omega (arith, c.len.ensures)) in
    ap (λ l. l ++ drop n a.coeffs.now)
    (sym (fill_none c.loop-i.i a.self.now c.loop-i.c-items (omega (arith, room, c.len.ensures))) ∙ c.loop-i.invariant)
    ∙ sets_front a.coeffs.now a.self.now n (sym c.len.ensures) (omega (arith, c.len.ensures))

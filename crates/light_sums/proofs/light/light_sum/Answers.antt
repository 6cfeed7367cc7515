-- `light::light_sum`: the two sums at the end, put together.
use mathlib.Core.Path.{◌≡◌, ◌∙◌, ap}
use mathlib.Core.Bool.{true, false}
use native.Mathlib.Omega.{arith}
use Rattle.light_sums.specs.Told.{told}
use Rattle.light_sums.proofs.Lights.{start, done, sum_small, sum_fits, sum-seen, sum_moved, whole_fits}
use Rattle.light_sums.proofs.light.light_sum.Goals as goal

pub loop-j-init : goal.loop-j-init
loop-j-init c = let t = c.requires.0 in record { high = start t true; low = start t false }

pub whole-requires : goal.whole-requires
whole-requires c =
    let (_, light) = c.requires in
    let sums = c.loop-j.invariant in
    whole_fits _ _ (sum_small light (sum-seen light sums.high)) (sum_fits light (sum-seen light sums.low))

pub returns : goal.returns
returns c =
    let (terms, light) = c.requires in
    let sums = c.loop-j.invariant in
    let end : c.loop-j.j ≡ c.args.to = omega (arith, terms.order) in
    c.whole.ensures ∙ ap told (done terms (sum_moved light sums.high end) (sum_moved light sums.low end))

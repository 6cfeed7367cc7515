-- `weight_of`: an entry's magnitude more; a sum that no machine number is stays past 2^63.
use mathlib.Core.Path.{◌≡◌, ◌∙◌, ap}
use native.Mathlib.Omega.{arith}
use lib.ListN.{length, get_or}
use lib.IntN.{nat_abs}
use mir.Syntax.{w64}
use mir.Val.{SFits}
use mir.Facts.{to_z-of_z}
use Rattle.definitions.specs.Integers.{0ℤ}
use Rattle.definitions.specs.Steps.{entries}
use Rattle.light_sums.specs.Weight.{weight_to, weight_to_more, weight_to-none, weight_to-whole}
use Rattle.exact_products.proofs.weight_of.Goals as goal

pub loop-x-init : goal.loop-x-init
loop-x-init c = omega (arith, weight_to-none (entries c.args.f.now))

pub loop-x-preserved : goal.loop-x-preserved
unfolding entries
loop-x-preserved c =
    let f = c.args.f.now in
    let i = c.loop-x.x-index in
    let fits : SFits w64 (get_or f i 0ℤ) = record { sfits = omega arith } in
    let m : c.unsigned_abs.result ≡ nat_abs (get_or f i 0ℤ) = c.unsigned_abs.ensures.value ∙ ap nat_abs (to_z-of_z fits) in
    omega (arith, weight_to_more (entries f) i, m, c.loop-x.invariant, c.saturating_add-w.ensures)

pub returns : goal.returns
returns c =
    let f = c.args.f.now in
    let same : c.loop-x.x-index ≡ length f = omega arith in
    let all = ap (weight_to (entries f)) same ∙ weight_to-whole f in
    omega (arith, all, c.loop-x.invariant, c.min.ensures)

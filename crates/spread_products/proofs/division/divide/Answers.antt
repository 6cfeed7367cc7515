-- `division::divide` meets its contract: the entry m before is the quotient's, and the one here the old one.
use Prim.Native.Nat.{◌-◌}
use mathlib.Core.Path.{◌∙◌, ap}
use native.Mathlib.Omega.{arith}
use lib.ListN.{get_or}
use mir.Syntax.{w64}
use mir.Val.{SFits}
use mir.Facts.{to_z-of_z}
use Rattle.definitions.specs.Integers.{◌⊝◌, 0ℤ}
use Rattle.definitions.specs.Steps.{entries}
use Rattle.step_laws.specs.Machine.{seen_both, handed}
use Rattle.wrapped_sums.specs.Wrapped.{wrap}
use Rattle.wrapped_sums.specs.Residues.{wrap_fits}
use Rattle.spread_products.proofs.Dividing.{low-start, low-next, next_one, ended}
use Rattle.spread_products.proofs.division.divide.Goals as goal

pub loop-i-init : goal.loop-i-init
loop-i-init c = low-start c.args.m c.requires c.args.a.now

pub loop-i-preserved : goal.loop-i-preserved
unfolding entries
loop-i-preserved c =
    let here : SFits w64 (get_or c.loop-i.a c.loop-i.i 0ℤ) = record { sfits = omega arith } in
    low-next c.args.m c.requires c.args.a.now c.loop-i.invariant (omega (arith, c.min-low.ensures)) (omega (arith, c.min-low.ensures))
    _ (handed (wrap_fits _) (c.minus.ensures ∙ ap (λ v. wrap (0ℤ ⊝ v)) (to_z-of_z here)))

pub loop-i-2-preserved : goal.loop-i-2-preserved
unfolding entries
loop-i-2-preserved c =
    let i = c.loop-i-2.i in
    let here : SFits w64 (get_or c.loop-i-2.a i 0ℤ) = record { sfits = omega arith } in
    let before : SFits w64 (get_or c.loop-i-2.a (i - c.args.m) 0ℤ) = record { sfits = omega arith } in
    next_one c.args.m c.requires c.args.a.now c.loop-i-2.invariant (omega (arith, c.min-low.ensures)) (omega arith)
    _ (handed (wrap_fits _) (c.minus-in-loop-i-2.ensures ∙ ap wrap (seen_both before here ◌⊝◌)))

pub returns : goal.returns
returns c = ended c.args.m c.requires c.args.a.now c.loop-i-2.invariant (omega arith)

-- `division::divide_running` meets its contract: each entry from here on is the old one.
use mathlib.Core.Path.{◌∙◌, ap}
use native.Mathlib.Omega.{arith}
use mir.Syntax.{w64}
use mir.Val.{to_z}
use mir.Facts.{to_z-of_z}
use Rattle.definitions.specs.Integers.{◌⊝◌}
use Rattle.definitions.specs.Steps.{entries}
use Rattle.step_laws.specs.Machine.{handed}
use Rattle.wrapped_sums.specs.Wrapped.{wrap}
use Rattle.wrapped_sums.specs.Residues.{wrap_fits}
use Rattle.spread_products.proofs.Dividing.{low-start, carried_first, running_next, running_ends}
use Rattle.spread_products.proofs.division.divide_running.Goals as goal

pub loop-x-init : goal.loop-x-init
loop-x-init c = (low-start 1 (omega arith) c.args.a.now, carried_first (entries c.args.a.now))

pub loop-x-preserved : goal.loop-x-preserved
unfolding entries
loop-x-preserved c =
    let v = handed (wrap_fits _) (c.minus-carried.ensures
    ∙ ap (λ x. wrap (to_z w64 c.loop-x.carried-bits ⊝ x)) (to_z-of_z {w = w64} (record { sfits = omega arith }))) in
    let n = running_next c.args.a.now c.loop-x.invariant.0 c.loop-x.invariant.1 c.loop-x-test.true v in
    (n.1, n.0)

pub returns : goal.returns
returns c = running_ends _ c.loop-x.invariant.0 (omega arith)

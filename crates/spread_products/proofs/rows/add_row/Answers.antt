-- `rows::add_row` meets its contract: what is put is the sum of what was read.
use Prim.Native.Nat.{◌+◌}
use mathlib.Core.Path.{◌∙◌, ap}
use native.Mathlib.Omega.{arith}
use lib.ListN.{get_or}
use mir.Syntax.{w64}
use mir.Val.{SFits}
use Rattle.definitions.specs.Integers.{◌⊕◌, ◌⊝◌, 0ℤ}
use Rattle.definitions.specs.Steps.{entries}
use Rattle.step_laws.specs.Machine.{seen_both, handed}
use Rattle.wrapped_sums.specs.Wrapped.{wrap}
use Rattle.wrapped_sums.specs.Residues.{wrap_fits}
use Rattle.spread_products.specs.Rows.{signed}
use Rattle.spread_products.proofs.Adding.{row-start, row_next, row_ends}
use Rattle.spread_products.proofs.rows.add_row.Goals as goal
use Rattle.spread_products.proofs.rows.add_row.Goals.{then-away, else-away}

pub loop-j-init : goal.loop-j-init
loop-j-init c = row-start c.args.away c.args.at c.args.g.now c.args.a.now

pub loop-j-preserved : goal.loop-j-preserved
unfolding entries signed
loop-j-preserved c =
    let p = c.args in
    let k = p.at + c.loop-j.j in
    let here : SFits w64 (get_or c.loop-j.a k 0ℤ) = record { sfits = omega arith } in
    row_next p.away p.at p.g.now p.a.now c.loop-j.invariant (omega (arith, c.min-end.ensures)) _
    (elim c.if-away.branch [
      | then-away w ↦
          let there : SFits w64 (get_or p.g.now c.loop-j.j 0ℤ) = record { sfits = omega arith } in
          rw w.if-away.true (w.a-is ∙ handed (wrap_fits _) (w.minus.ensures ∙ ap wrap (seen_both here there ◌⊝◌)))
      | else-away w ↦
          let there : SFits w64 (get_or p.g.now c.loop-j.j 0ℤ) = record { sfits = omega arith } in
          rw w.if-away.false (w.a-is ∙ handed (wrap_fits _) (w.plus.ensures ∙ ap wrap (seen_both here there ◌⊕◌)))
    ])

pub returns : goal.returns
returns c =
    let p = c.args in
    row_ends p.away p.at p.g.now p.a.now c.loop-j.invariant (omega (arith, c.min-end.ensures))

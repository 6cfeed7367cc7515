-- `rows::times_spread` meets its contract: one term more, and the end, where no more count.
use mathlib.Core.Path.{refl}
use native.Mathlib.Omega.{arith}
use mir.Syntax.{w64}
use mir.Facts.{to_z-of_z}
use Rattle.definitions.specs.Requests.{zeros}
use Rattle.definitions.specs.Steps.{entries}
use Rattle.spread_products.proofs.Spreading.{beyond}
use Rattle.spread_products.proofs.Spreading.{product-start, product-next, product_ends}
use Rattle.spread_products.proofs.rows.times_spread.Goals as goal

pub loop-i-init : goal.loop-i-init
unfolding zeros
loop-i-init c = product-start c.args.p c.requires.0 c.args.f.now c.args.g.now _ (c.fill.ensures.after (λ y e. e))

pub loop-i-preserved : goal.loop-i-preserved
unfolding entries
loop-i-preserved c =
    product-next c.args.p c.requires.0 c.args.f.now c.args.g.now c.loop-i.invariant refl
    (to_z-of_z {w = w64} (record { sfits = omega arith })) c.add_times.ensures

pub returns : goal.returns
returns c =
    product_ends c.args.p c.requires.0 c.args.f.now c.args.g.now c.loop-i.invariant
    (rw c.loop-i.auto.a (beyond _ _ _ _ c.requires.0 (rw c.div_ceil.ensures at c.min-terms.ensures) c.loop-i.i c.loop-i-test.false))

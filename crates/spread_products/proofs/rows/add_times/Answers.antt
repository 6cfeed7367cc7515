-- `rows::add_times` meets its contract: |c| rows, each with c's sign.
use mathlib.Core.Path.{ap}
use native.Mathlib.Omega.{arith}
use lib.IntN.{nat_abs}
use mir.Facts.{to_z-of_z}
use Rattle.spread_products.proofs.Adding.{no_rows, one_more, all_rows}
use Rattle.spread_products.proofs.rows.add_times.Goals as goal

pub loop-init : goal.loop-init
loop-init c = no_rows _ _ _ _

pub loop-preserved : goal.loop-preserved
loop-preserved c = one_more c.loop.invariant c.add_row.ensures

pub returns : goal.returns
returns c =
    let e = to_z-of_z c.ranges.c in
    all_rows c.args.c (rw e at c.loop.invariant) (omega (arith, c.unsigned_abs-end.ensures.value, ap nat_abs e))

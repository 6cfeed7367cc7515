-- `sizes_of` meets its contract: an invariant of the indices passed (Sizing).
use native.Mathlib.Omega.{arith}
use Rattle.cascade.proofs.Sizing.{sized_none, refused, total_fits, sized_more}
use Rattle.cascade.proofs.asked.sizes_of.Goals as goal

pub loop-n-init : goal.loop-n-init
loop-n-init c = sized_none _ c.requires

pub returns-then-not-good_index : goal.returns-then-not-good_index
returns-then-not-good_index c =
    refused c.loop-n.invariant c.loop-n-test.true c.good_index.ensures c.if-not-good_index.true

pub overflow_add-total : goal.overflow_add-total
overflow_add-total c =
    let small = total_fits c.loop-n.invariant c.loop-n-test.true c.good_index.ensures c.if-not-good_index.false
    c.degree_of-phi.ensures in
    record { fits = omega arith }

pub loop-n-preserved : goal.loop-n-preserved
loop-n-preserved c =
    sized_more c.loop-n.invariant c.loop-n-test.true c.good_index.ensures c.if-not-good_index.false
    c.degree_of-phi.ensures c.max-longest.ensures

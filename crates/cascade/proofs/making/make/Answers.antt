-- `make` meets its contract: an invariant of the first i factors (Underway).
use mathlib.Core.Path.{ap}
use Rattle.std.specs.Prelude.{is_err}
use Rattle.cascade.proofs.Underway.{first_asks, underway_first, known, room, over_here, underway_more, done}
use Rattle.cascade.proofs.making.make.Goals as goal

pub first_factor-so-requires : goal.first_factor-so-requires
first_factor-so-requires c = first_asks c.requires.0 c.requires.1 _ c.clear.ensures

pub loop-i-init : goal.loop-i-init
loop-i-init c = underway_first c.requires.0 c.requires.1 c.clear.ensures c.first_factor-so.ensures

pub take_factor-requires : goal.take_factor-requires
take_factor-requires c = (known c.loop-i.invariant, room c.loop-i.invariant c.loop-i-test.true)

pub returns-in_err-so-clause-product_is : goal.returns-in_err-so-clause-product_is
returns-in_err-so-clause-product_is c =
    over_here c.loop-i.invariant c.loop-i-test.true c.take_factor.ensures.taken (ap is_err c.in_err-so.was)
    c.from_residual.ensures.0

pub loop-i-preserved : goal.loop-i-preserved
loop-i-preserved c =
    underway_more c.loop-i.invariant c.loop-i-test.true c.take_factor.ensures.taken c.in_ok-so.was _
    c.take_factor.ensures.scratch_len_unchanged

pub returns-clause-product_is : goal.returns-clause-product_is
returns-clause-product_is c = done c.loop-i.invariant c.loop-i-test.false

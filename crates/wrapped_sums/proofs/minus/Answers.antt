-- `wrapped_sums::minus` meets its contract: what the machine wraps is the number wrapped.
use Rattle.wrapped_sums.proofs.Bits.{difference_wraps}
use Rattle.wrapped_sums.proofs.minus.Goals as goal

pub returns : goal.returns
returns c = difference_wraps _ _ c.ranges.x c.ranges.y

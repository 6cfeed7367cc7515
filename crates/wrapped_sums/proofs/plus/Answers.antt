-- `wrapped_sums::plus` meets its contract: what the machine wraps is the number wrapped.
use Rattle.wrapped_sums.proofs.Bits.{sum_wraps}
use Rattle.wrapped_sums.proofs.plus.Goals as goal

pub returns : goal.returns
returns c = sum_wraps _ _ c.ranges.x c.ranges.y

-- `response::within` meets its contract: the machine's -1.0 and 1.0 are -1 and 1, and each arm is one of the
-- definition.
use mathlib.Core.Path.{refl}
use lib.Ieee.{of_bits, neg}
use Rattle.response.specs.Response.{is_within}
use Rattle.response.proofs.within.Goals as goal

pub returns-then-x : goal.returns-then-x
unfolding is_within of_bits neg
returns-then-x c = rw c.if-x.true refl

pub returns-else-x : goal.returns-else-x
unfolding is_within of_bits neg
returns-else-x c = rw c.if-x.false refl

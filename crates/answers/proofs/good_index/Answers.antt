-- `good_index` meets its contract, by the branch.
use borrow.Author.Tests.{lt-ltb, le-ltb}
use Rattle.definitions.specs.Requests.{good_index}
use Rattle.answers.proofs.good_index.Goals as goal

pub returns-then-n-gt0 : goal.returns-then-n-gt0
unfolding good_index
returns-then-n-gt0 c = rw (lt-ltb _ _ c.if-n-gt0.true)

pub returns-else-n-gt0 : goal.returns-else-n-gt0
unfolding good_index
returns-else-n-gt0 c = rw (le-ltb _ _ c.if-n-gt0.false)

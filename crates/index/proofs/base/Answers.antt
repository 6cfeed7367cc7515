-- `base` meets its contract: the two cases of the test.
use borrow.Author.Tests.{eq-eqb, ne_eqb}
use Rattle.definitions.specs.Numbers.{divides}
use Rattle.index.proofs.base.Goals as goal

pub returns-then-n-eq0 : goal.returns-then-n-eq0
unfolding divides
returns-then-n-eq0 c = simp (eq-eqb _ _ c.if-n-eq0.true)

pub returns-else-n-eq0 : goal.returns-else-n-eq0
unfolding divides
returns-else-n-eq0 c = simp (ne_eqb _ _ c.if-n-eq0.false)

-- `first_of` meets its contract, by the branch.
use borrow.Author.Tests.{eq-eqb, ne_eqb}
use Rattle.definitions.specs.Integers.{⊖}
use Rattle.definitions.specs.Series.{constant, _ˢ}
use Rattle.definitions.specs.KeptHalf.{start}
use Rattle.kept_half.proofs.run.first_of.Goals as goal

pub returns-then-kind-eq1 : goal.returns-then-kind-eq1
unfolding start constant
returns-then-kind-eq1 c = rw (eq-eqb _ _ c.if-kind-eq1.true)

pub returns-else-kind-eq1 : goal.returns-else-kind-eq1
unfolding start constant _ˢ ⊖
returns-else-kind-eq1 c = rw (ne_eqb _ _ c.if-kind-eq1.false)

-- `known_kind` meets its contract, by the branch.
use borrow.Author.Tests.{eq-eqb, ne_eqb}
use Rattle.definitions.specs.Requests.{known_kind}
use Rattle.answers.proofs.known_kind.Goals as goal

pub returns-then-kind-eq1 : goal.returns-then-kind-eq1
unfolding known_kind
returns-then-kind-eq1 c = rw (eq-eqb _ _ c.if-kind-eq1.true)

pub returns-else-kind-eq1 : goal.returns-else-kind-eq1
unfolding known_kind
returns-else-kind-eq1 c = rw (ne_eqb _ _ c.if-kind-eq1.false)

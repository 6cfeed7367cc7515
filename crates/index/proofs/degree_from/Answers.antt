-- `degree_from` meets its contract: the cases of the tests.
use borrow.Author.Tests.{eq-eqb, ne_eqb}
use native.Mathlib.Omega.{arith}
use Rattle.index.proofs.degree_from.Goals as goal

pub returns-then-kind-eq1 : goal.returns-then-kind-eq1
returns-then-kind-eq1 c = simp (eq-eqb _ _ c.if-kind-eq1.true)

pub returns-then-n-phi : goal.returns-then-n-phi
returns-then-n-phi c = simp (ne_eqb _ _ c.if-kind-eq1.false) (omega arith)

pub returns-else-n-phi : goal.returns-else-n-phi
returns-else-n-phi c = simp (ne_eqb _ _ c.if-kind-eq1.false)

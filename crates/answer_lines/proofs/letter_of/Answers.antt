-- `answer_lines::letter_of` meets its contract, by the test of the kind.
use borrow.Author.Tests.{eq-eqb, ne_eqb}
use Rattle.answer_lines.specs.Printed.{letter_of}
use Rattle.answer_lines.proofs.letter_of.Goals as goal

pub returns-then-kind-eq1 : goal.returns-then-kind-eq1
unfolding letter_of
returns-then-kind-eq1 c = simp (eq-eqb _ _ c.if-kind-eq1.true)

pub returns-else-kind-eq1 : goal.returns-else-kind-eq1
unfolding letter_of
returns-else-kind-eq1 c = simp (ne_eqb _ _ c.if-kind-eq1.false)

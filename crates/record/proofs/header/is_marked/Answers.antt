-- `is_marked`: the tests are those of `marked`.
use borrow.Author.Tests.{eq-eqb, ne_eqb}
use Rattle.record.specs.Header.{marked}
use Rattle.record.proofs.header.is_marked.Goals as goal

pub returns-then-bytes : goal.returns-then-bytes
unfolding marked
returns-then-bytes c = simp (eq-eqb _ _ c.if-bytes.true)

pub returns-else-bytes : goal.returns-else-bytes
unfolding marked
returns-else-bytes c = simp (ne_eqb _ _ c.if-bytes.false)

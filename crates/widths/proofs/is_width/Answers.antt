-- `is_width`: the tests are those of `one_of widths`, in its order.
use borrow.Author.Tests.{ne_eqb}
use Rattle.widths.specs.Numbers.{one_of}
use Rattle.widths.proofs.Least.{or-false}
use Rattle.widths.proofs.is_width.Goals as goal

pub returns-then-w-eq1 : goal.returns-then-w-eq1
unfolding one_of
returns-then-w-eq1 c = rw c.if-w-eq1.true

pub returns-then-w-eq2 : goal.returns-then-w-eq2
unfolding one_of
returns-then-w-eq2 c = rw c.if-w-eq2.true

pub returns-then-w-eq4 : goal.returns-then-w-eq4
unfolding one_of
returns-then-w-eq4 c = simp c.if-w-eq4.true

pub returns-else-w-eq4 : goal.returns-else-w-eq4
unfolding one_of
returns-else-w-eq4 c =
    simp (ne_eqb _ _ c.if-w-eq1.false, ne_eqb _ _ c.if-w-eq2.false, ne_eqb _ _ c.if-w-eq4.false)
    (or-false _)

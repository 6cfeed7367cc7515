-- `first_of` meets its contract, by kind and parity (Even).
use mathlib.Core.Path.{sym}
use Rattle.definitions.specs.Integers.{⊖}
use Rattle.numbers.specs.Tests.{kind_two}
use Rattle.squarefree_from_half.proofs.Even.{first_F1, first_F2, first_I1, first_I2}
use Rattle.squarefree_from_half.proofs.first_of.Goals as goal

pub returns-then-even : goal.returns-then-even
returns-then-even c = rw (c.if-kind-eq1.true, c.if-even.true) (sym first_F2)

pub returns-else-even : goal.returns-else-even
unfolding ⊖
returns-else-even c = rw (c.if-kind-eq1.true, c.if-even.false) (sym first_F1)

pub returns-then-even-2 : goal.returns-then-even-2
unfolding ⊖
returns-then-even-2 c = rw (kind_two _ c.requires c.if-kind-eq1.false, c.if-even-2.true) (sym first_I2)

pub returns-else-even-2 : goal.returns-else-even-2
returns-else-even-2 c = rw (kind_two _ c.requires c.if-kind-eq1.false, c.if-even-2.false) (sym first_I1)

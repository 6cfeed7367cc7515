-- `negates`: by kind.
use mathlib.Core.Path.{refl}
use borrow.Author.Tests.{eq-eqb, ne_eqb}
use Rattle.definitions.specs.Halves.{negates}
use Rattle.answers.proofs.negates.Goals as goal

pub returns-then-kind-eq1 : goal.returns-then-kind-eq1
unfolding negates
returns-then-kind-eq1 c = rw (eq-eqb _ 1 c.if-kind-eq1.true) refl

pub returns : goal.returns
unfolding negates
returns c = rw (ne_eqb _ 1 c.if-kind-eq1.false) refl

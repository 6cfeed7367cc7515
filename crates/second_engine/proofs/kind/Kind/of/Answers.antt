-- `Kind::of` meets its contract: a known kind that is not 1 is 2.
use mathlib.Core.Path.{sym}
use Rattle.numbers.specs.Tests.{kind_two}
use Rattle.second_engine.proofs.kind.Kind.of.Goals as goal

pub returns-else-number-eq1 : goal.returns-else-number-eq1
returns-else-number-eq1 c = sym (kind_two _ c.requires c.if-number-eq1.false)

-- `known_height` meets its contract: by what is promised (Known).
use native.Mathlib.Omega.{arith}
use Rattle.next_factor.proofs.Known.{r-most, none-or-one, two, three, four, cube}
use Rattle.next_factor.proofs.weighing.known_height.Goals as goal

pub returns-in-0 : goal.returns-in-0
returns-in-0 c = (none-or-one _ c.requires.0 _ c.requires.1 (omega arith), omega arith)

pub returns-in-2 : goal.returns-in-2
returns-in-2 c = (two _ c.requires.0 _ c.requires.1 c.in-2.is, omega arith)

pub overflow_mul-result : goal.overflow_mul-result
overflow_mul-result c = record { fits = omega (arith, r-most _ c.requires.0 _ c.requires.1) }

pub returns-in-3 : goal.returns-in-3
returns-in-3 c =
    (three _ c.requires.0 _ c.requires.1 c.in-3.is, omega (arith, r-most _ c.requires.0 _ c.requires.1))

pub returns-in-4 : goal.returns-in-4
returns-in-4 c =
    (four _ c.requires.0 _ c.requires.1 c.in-4.is, omega (arith, cube _ c.if-r-lt4096.true))

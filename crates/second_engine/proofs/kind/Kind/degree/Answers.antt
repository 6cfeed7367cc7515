-- `Kind::degree` meets its contract, by kind: phi(m) is at most m.
use mathlib.Core.Path.{ap}
use Prim.Native.Nat.{◌-◌}
use Rattle.definitions.specs.Polynomials.{degree}
use Rattle.numbers.specs.Phi.{phi-le}
use Rattle.second_engine.proofs.kind.Kind.degree.Goals as goal

pub overflow_sub-result : goal.overflow_sub-result
overflow_sub-result c = rw c.requires (phi-le c.args.m)

pub returns-in-First : goal.returns-in-First
unfolding degree
returns-in-First c = rw c.in-First.is c.requires

pub returns-in-Inverse : goal.returns-in-Inverse
unfolding degree
returns-in-Inverse c = rw c.in-Inverse.is (ap (λ free. c.args.m - free) c.requires)

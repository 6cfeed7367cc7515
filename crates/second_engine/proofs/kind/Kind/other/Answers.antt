-- `Kind::other` meets its contract, by kind.
use mathlib.Core.Path.{refl}
use Rattle.definitions.specs.Second.{other_kind}
use Rattle.second_engine.proofs.kind.Kind.other.Goals as goal

pub returns-in-First : goal.returns-in-First
unfolding other_kind
returns-in-First c = rw c.in-First.is refl

pub returns-in-Inverse : goal.returns-in-Inverse
unfolding other_kind
returns-in-Inverse c = rw c.in-Inverse.is refl

-- `lower_half` meets its contract: the first k primes by themselves.
use native.Mathlib.Omega.{arith}
use Rattle.second_engine.proofs.Fewer.{asked_front}
use Rattle.second_engine.proofs.lower_half.Goals as goal

pub half-requires : goal.half-requires
half-requires c = rw c.of.ensures (asked_front (omega (arith, c.requires.0.few)) c.requires.0)

pub returns : goal.returns
returns c = rw c.of.ensures at c.half.ensures

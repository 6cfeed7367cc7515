-- `without` meets its contract. The invariant: some of the factors p are out. The measure is what is left.
use Rattle.sieve.specs.Sieving.{Taking}
use Rattle.sieve.proofs.without.Given as goal

abbrev pub invariant-loop-rest : goal.invariant-loop-rest
invariant-loop-rest l = Taking l.n l.p l.rest

abbrev pub decreases-loop-rest : goal.decreases-loop-rest
decreases-loop-rest l = l.rest

-- The cycle of calls {take_terms}: the measure is the number of primes.
use lib.ListN.{length}
use Rattle.factor_steps.proofs.+take_terms.Given as goal

abbrev pub decreases-take_terms : goal.decreases-take_terms
decreases-take_terms l = length l.primes.now

-- The cycle of calls {half}: the measure is the number of primes.
use lib.ListN.{length}
use Rattle.second_engine.proofs.+half.Given as goal

abbrev pub decreases-half : goal.decreases-half
decreases-half l = length l.primes.now

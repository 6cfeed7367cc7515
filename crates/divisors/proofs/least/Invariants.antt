-- `least` meets its contract. The invariant: the least above `after` among r and what the masks below `mask` name.
use lib.ListN.{length}
use Rattle.divisors.specs.Least.{LeastTo}
use Rattle.divisors.proofs.least.Given as goal

abbrev pub invariant-loop-mask : goal.invariant-loop-mask
invariant-loop-mask l = LeastTo l.primes (length l.primes) l.after l.mask l.best

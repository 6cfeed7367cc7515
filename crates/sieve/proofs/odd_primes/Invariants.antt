-- `odd_primes` meets its contract. The invariant: the odd primes of n below p are found, and those above are the primes
-- of what is left. Where p p is more than that, it is 1 or the last prime (`Last`).
use Prim.Native.Nat.{◌%◌, ◌-◌, ◌≤◌, ◌<◌}
use mathlib.Core.Path.{◌≡◌}
use Rattle.sieve.specs.Sieving.{Sifted}
use Rattle.sieve.proofs.odd_primes.Given as goal

abbrev pub invariant-loop-p : goal.invariant-loop-p
invariant-loop-p l = (2 < l.p) × (l.p ≤ 65537) × Sifted l.n (l.p - 1) l.s × (l.p % 2 ≡ 1)

abbrev pub decreases-loop-p : goal.decreases-loop-p
decreases-loop-p l = 65538 - l.p

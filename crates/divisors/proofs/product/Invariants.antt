-- `product` meets its contract. The invariant: the product of the chosen among the first i.
use mathlib.Core.Path.{◌≡◌}
use Rattle.divisors.specs.Masks.{mask_to}
use Rattle.divisors.proofs.product.Given as goal

abbrev pub invariant-loop-i : goal.invariant-loop-i
invariant-loop-i l = l.size ≡ mask_to l.primes l.mask l.i

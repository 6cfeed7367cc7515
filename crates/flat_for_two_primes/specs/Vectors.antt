-- The theorem on vectors: r = 15 meets its premises and the kept half of F(15), computed from the definition, is 1, -1,
-- 0, 1, -1; and at r = 105, which has three primes and seven divisors below it, there is a -2, so that no such theorem
-- holds of three primes.
use Rattle.std.specs.Prelude.{◌≡◌, refl, [], ◌∷◌, pos, negsuc, nat_abs}
use Rattle.std.proofs.Common.{arith}
use Rattle.definitions.specs.Integers.{◌⊕◌, ◌⊗◌, ⊖}
use Rattle.definitions.specs.Series.{constant, ◌+ˢ◌, _ˢ, ◌·◌, z^, firsts}
use Rattle.definitions.specs.Numbers.{some_to, count_to, list_to, product_of_to, divides, share_factor, phi, is_prime}
use Rattle.definitions.specs.Numbers.{odd_prime_of, r_of, divisors_below, primes_of, mu_is_plus}
use Rattle.definitions.specs.Polynomials.{degree}
use Rattle.definitions.specs.Steps.{entries}
use Rattle.definitions.specs.KeptHalf.{half_degree, sort_of, term_of, term, start, product_of, kept_series, kept_half}
use Rattle.definitions.specs.Requests.{divisors_due}
use Rattle.numbers.specs.Apart.{OddSquarefree, r_odd_squarefree}
use Rattle.step_laws.specs.Bound.{Bounded}
use Rattle.flat_for_two_primes.specs.Flat.{two_flat}

fifteen_odd : OddSquarefree 15
unfolding r_of product_of_to odd_prime_of is_prime some_to divides
fifteen_odd = r_odd_squarefree 15

fifteen_due : divisors_due 15 ≡ 3
unfolding divisors_due divisors_below list_to divides
fifteen_due = refl

pub fifteen_flat : Bounded 1 (entries (kept_half 1 15 3))
fifteen_flat = rw fifteen_due at (two_flat 15 fifteen_odd fifteen_due)

pub fifteen : kept_half 1 15 3 ≡ pos 1 ∷ negsuc 0 ∷ pos 0 ∷ pos 1 ∷ negsuc 0 ∷ []
unfolding kept_half kept_series half_degree degree phi count_to share_factor some_to divides firsts start product_of
    divisors_below list_to term term_of sort_of mu_is_plus primes_of is_prime ◌·◌ ◌+ˢ◌ _ˢ z^ constant ◌⊕◌ ◌⊗◌ ⊖
fifteen = refl

-- three primes: the coefficient of F(105) at degree 7
seven_due : divisors_due 105 ≡ 7
unfolding divisors_due divisors_below list_to divides
seven_due = refl

at_seven : nat_abs (entries (kept_half 1 105 7) 7) ≡ 2
unfolding kept_half kept_series half_degree degree phi count_to share_factor some_to divides firsts start product_of
    divisors_below list_to term term_of sort_of mu_is_plus primes_of is_prime entries ◌·◌ ◌+ˢ◌ _ˢ z^ constant ◌⊕◌ ◌⊗◌ ⊖
at_seven = refl

pub three_not_flat : ¬ Bounded 1 (entries (kept_half 1 105 (divisors_due 105)))
three_not_flat h = omega (arith, at_seven, rw seven_due at (h 7))

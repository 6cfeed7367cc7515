-- The second engine's definitions, run: what it makes for 3 and 15, of each kind, a product before its division, and
-- codes.
use Rattle.std.specs.Prelude.{ℕ, ◌≡◌, refl, List, [], ◌∷◌, ℤ, pos, negsuc}
use Rattle.definitions.specs.Codes.{DONE, KIND, INDEX, LIMIT, SHORT}
use Rattle.definitions.specs.Integers.{◌⊕◌, ◌⊗◌, ⊖}
use Rattle.definitions.specs.Series.{constant, ◌+ˢ◌, _ˢ, ◌·◌, ◌÷◌, z^, spread, firsts}
use Rattle.definitions.specs.Numbers.{
  some_to,
  count_to,
  list_to,
  row_to,
  divides,
  share_factor,
  phi,
  is_prime,
  odd_prime_of,
  k_of,
}
use Rattle.definitions.specs.Polynomials.{z^_1, product_to, at_divisors, family_to, F, I, polynomial, degree}
use Rattle.definitions.specs.Steps.{in_range, some_outside, below_one}
use Rattle.definitions.specs.Requests.{known_kind, good_index}
use Rattle.definitions.specs.Answer.{coefficients, height_of, height}
use Rattle.definitions.specs.Second.{other_kind, made, before_division, outside, made_over, second_over}
use Rattle.answers.specs.Second.{code}

-- 1, 0 and -1
abbrev p : ℤ
p = pos 1

abbrev o : ℤ
o = pos 0

abbrev n : ℤ
n = negsuc 0

primes : List ℕ
primes = 3 ∷ 5 ∷ []

-- F(3), F(15), I(3) and I(15), each with a zero after it
makes :
    (firsts 4 (made 1 primes 1) ≡ p ∷ p ∷ p ∷ o ∷ [])
    × (firsts 10 (made 1 primes 2) ≡ p ∷ n ∷ o ∷ p ∷ n ∷ p ∷ o ∷ n ∷ p ∷ o ∷ [])
    × (firsts 3 (made 2 primes 1) ≡ n ∷ p ∷ o ∷ [])
    × (firsts 9 (made 2 primes 2) ≡ n ∷ n ∷ n ∷ o ∷ o ∷ p ∷ p ∷ p ∷ o ∷ [])
unfolding primes made other_kind row_to ◌⊕◌ ◌⊗◌ ⊖ constant ◌+ˢ◌ _ˢ ◌·◌ ◌÷◌ z^ spread firsts z^_1
makes = (refl, refl, refl, refl)

-- F(3) with z^5 for z, times I(3) = z - 1: degree 11
divides_later : firsts 13 (before_division 1 primes 1) ≡ n ∷ p ∷ o ∷ o ∷ o ∷ n ∷ p ∷ o ∷ o ∷ o ∷ n ∷ p ∷ o ∷ []
unfolding primes before_division made other_kind row_to ◌⊕◌ ◌⊗◌ ⊖ constant ◌+ˢ◌ _ˢ ◌·◌ ◌÷◌ z^ spread firsts z^_1
divides_later = refl

-- kind, index and limit refused; for F(15) the room and the scratch, of 46 entries, one too short, and neither; for
-- I(15) the room one too short, and not
codes :
    code 3 15 (pos 1) 9 46 ∷ code 1 0 (pos 1) 9 46 ∷ code 1 15 (pos 0) 9 46 ∷ code 1 15 (pos 1) 8 46
    ∷ code 1 15 (pos 1) 9 45 ∷ code 1 15 (pos 1) 9 46 ∷ code 2 15 (pos 1) 7 46 ∷ code 2 15 (pos 1) 8 46 ∷ []
    ≡ KIND ∷ INDEX ∷ LIMIT ∷ SHORT ∷ SHORT ∷ DONE ∷ SHORT ∷ DONE ∷ []
unfolding code known_kind good_index below_one degree phi count_to share_factor some_to divides second_over made_over list_to
    odd_prime_of is_prime k_of outside some_outside in_range before_division made other_kind row_to ◌⊕◌ ◌⊗◌ ⊖ constant ◌+ˢ◌ _ˢ
    ◌·◌ ◌÷◌ z^ spread firsts z^_1 height height_of coefficients polynomial F I family_to product_to at_divisors
codes = refl

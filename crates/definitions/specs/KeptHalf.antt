-- The kept half (docs/RULES.md, 'The kept half and the partial request'). D is half the degree for r, rounded down. The
-- divisors d of r below r are taken in ascending order; for F a step is a comb where mu(r/d) is +1, else an accumulate,
-- and for I the other way round. A divisor's term is 1 - z^d where its step is a comb, and 1 + z^d + z^(2d) + .. where
-- it is an accumulate. After j divisors the kept half is the product of their terms, negated for I, as a power series
-- cut after degree D.
use Rattle.std.specs.Prelude.{ℕ, ◌+◌, ◌-◌, ◌/◌, cond, not, ◌&&◌, List, [], ◌∷◌, map, take, ℤ, eqb, leb}
use Rattle.definitions.specs.Integers.{0ℤ, 1ℤ}
use Rattle.definitions.specs.Series.{Series, 𝟙, ◌+ˢ◌, _ˢ, ◌·◌, z^, firsts}
use Rattle.definitions.specs.Numbers.{divides, list_to, divisors_below, mu_is_plus}
use Rattle.definitions.specs.Polynomials.{degree}
use Rattle.definitions.specs.Steps.{Sort, comb, accumulate}

unfoldable pub half_degree : ℕ → ℕ → ℕ
half_degree kind r = degree kind r / 2

unfoldable pub sort_of : ℕ → ℕ → ℕ → Sort
sort_of kind r d = cond (cond (eqb kind 1) (mu_is_plus (r / d)) (not (mu_is_plus (r / d)))) comb accumulate

unfoldable pub term_of : Sort → ℕ → Series
term_of comb d = 𝟙 +ˢ _ˢ (z^ d)
term_of accumulate d = λ i. cond (divides d i) 1ℤ 0ℤ

unfoldable pub term : ℕ → ℕ → ℕ → Series
term kind r d = term_of (sort_of kind r d) d

unfoldable pub start : ℕ → Series
start kind = cond (eqb kind 1) 𝟙 (_ˢ 𝟙)

-- the product of a list of series
unfoldable pub product_of : List Series → Series
product_of [] = 𝟙
product_of (f ∷ fs) = f · product_of fs

-- after j divisors: the series, and the entries 0 to D
unfoldable pub kept_series : ℕ → ℕ → ℕ → Series
kept_series kind r j = start kind · product_of (map (term kind r) (take j (divisors_below r)))

unfoldable pub kept_half : ℕ → ℕ → ℕ → List ℤ
kept_half kind r j = firsts (half_degree kind r + 1) (kept_series kind r j)

unfoldable pub sum_of : List ℕ → ℕ
sum_of [] = 0
sum_of (a ∷ rest) = a + sum_of rest

-- the additions of the first j steps, each on D + 1 entries: D + 1 - d, or 0 where d is above D
unfoldable pub additions_after : ℕ → ℕ → ℕ → ℕ
additions_after kind r j = sum_of (map (λ d. half_degree kind r + 1 - d) (take j (divisors_below r)))

-- demand 3: the sum of D + 1 - d over the divisors d of r that are below r and at most D
unfoldable pub additions : ℕ → ℕ → ℕ
additions kind r =
    sum_of (map (λ d. half_degree kind r + 1 - d) (list_to (r - 1) (λ d. divides d r && leb d (half_degree kind r))))

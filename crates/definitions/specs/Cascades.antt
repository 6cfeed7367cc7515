-- Cascades (docs/RULES.md, 'The cascade request'): a list of indices, repeats allowed, and the product of their F.
use Rattle.std.specs.Prelude.{ℕ, zero, suc, max, Bool, true, false, not, ◌&&◌, ◌||◌, List, [], ◌∷◌, map, length, take, ℤ}
use Rattle.definitions.specs.Series.{Series, firsts}
use Rattle.definitions.specs.Numbers.{phi, r_of}
use Rattle.definitions.specs.Polynomials.{F}
use Rattle.definitions.specs.Steps.{in_range, some_outside, largest}
use Rattle.definitions.specs.KeptHalf.{product_of, sum_of}
use Rattle.definitions.specs.Requests.{good_index, divisors_due, over_among}
use Rattle.definitions.specs.Answer.{gain_of}

-- the product of their F, its degree, and its coefficients
unfoldable pub product : List ℕ → Series
product ns = product_of (map F ns)

unfoldable pub total_degree : List ℕ → ℕ
total_degree ns = sum_of (map phi ns)

unfoldable pub product_coefficients : List ℕ → List ℤ
product_coefficients ns = firsts (suc (total_degree ns)) (product ns)

-- the degree of the longest factor
unfoldable pub longest : List ℕ → ℕ
longest [] = 0
longest (n ∷ ns) = max (phi n) (longest ns)

-- each index is from 1 to 65,535
unfoldable pub all_good : List ℕ → Bool
all_good [] = true
all_good (n ∷ ns) = good_index n && all_good ns

-- a product has a coefficient, or its gain, out of range
unfoldable pub product_over : List ℕ → Bool
product_over ns =
    some_outside largest 0 (suc (total_degree ns)) (product ns) || not (in_range largest (gain_of (product_coefficients ns)))

-- the product of some of the first factors, at most j of them, has
unfoldable pub firsts_over : ℕ → List ℕ → Bool
firsts_over zero ns = false
firsts_over (suc j) ns = firsts_over j ns || product_over (take (suc j) ns)

-- a factor alone gives OVER: its own request would, at the largest working limit
unfoldable pub factor_over : List ℕ → Bool
factor_over [] = false
factor_over (n ∷ ns) = over_among largest 1 (r_of n) (divisors_due (r_of n)) || factor_over ns

unfoldable pub cascade_over : List ℕ → Bool
cascade_over ns = factor_over ns || firsts_over (length ns) ns

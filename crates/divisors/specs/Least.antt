-- What the search for the next divisor holds: the primes in their row, and the least divisor above a number among those
-- of the first masks.
use Rattle.std.specs.Prelude.{ℕ, ◌^◌, ◌≤◌, ◌<◌, ◌≡◌, cond, ◌&&◌, List, ltb, get_or}
use Rattle.std.specs.Int.{◌∣◌}
use Rattle.numbers.specs.Primes.{Prime}
use Rattle.definitions.specs.Numbers.{row_to}
use Rattle.divisors.specs.Masks.{mask_to}
use Rattle.divisors.specs.declared.NamedDivisor.{NamedDivisor}

-- at most five different primes with a small product
pub record Row (l : List ℕ) (k : ℕ) : Type 0 where
  pub few : k ≤ 5
  pub new : (i : ℕ) → i < k → Prime (get_or l i 0) × (¬ (get_or l i 0 ∣ row_to l i))
  pub bound : row_to l k ≤ 65535

-- one that is above `after`, and least of those among the divisors that the masks below m name
pub record LeastTo (l : List ℕ) (k after m : ℕ) (x : NamedDivisor) : Type 0 where
  pub above : after < x.size
  pub inside : x.mask < 2 ^ k
  pub names : mask_to l x.mask k ≡ x.size
  pub most : x.size ≤ row_to l k
  pub least : (b : ℕ) → b < m → after < mask_to l b k → x.size ≤ mask_to l b k

abbrev pub or_named : NamedDivisor → ℕ → ℕ → ℕ → NamedDivisor
or_named x mask size after = cond (ltb after size && ltb size x.size) (record { mask = mask; size = size }) x

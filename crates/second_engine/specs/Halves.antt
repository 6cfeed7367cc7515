-- What the second engine is asked for, and what it leaves.
use Rattle.std.specs.Prelude.{ℕ, suc, ◌+◌, ◌*◌, ◌-◌, ◌<◌, ◌≤◌, ◌≡◌, cond, eqb, List, length, ℤ}
use Rattle.std.specs.Int.{◌∣◌}
use Rattle.definitions.specs.Integers.{0ℤ}
use Rattle.definitions.specs.Series.{Series, ◌÷◌}
use Rattle.definitions.specs.Numbers.{row_to, phi}
use Rattle.definitions.specs.Polynomials.{z^_1, polynomial, degree}
use Rattle.definitions.specs.Steps.{entries}
use Rattle.definitions.specs.KeptHalf.{half_degree}
use Rattle.definitions.specs.Second.{other_kind}
use Rattle.numbers.specs.Primes.{Prime}
use Rattle.numbers.specs.PrimeRows.{OddRow}

-- r is the product of the first k of a row of odd primes, and an index at most; a has room for the lower half, and b
-- for both polynomials of one prime fewer
pub record Asked (kind : ℕ) (primes : List ℕ) (k r free : ℕ) (a b : List ℤ) : Type 0 where
  pub few : k ≤ 5
  pub row : OddRow primes k
  pub is_r : r ≡ row_to primes k
  pub is_free : free ≡ phi r
  pub small : r ≤ 65535
  pub room : half_degree kind r + 1 ≤ length a
  pub scratch : (j : ℕ) → k ≡ suc j → row_to primes j + 2 ≤ length b

-- the lower half of the polynomial of r stands in front, or from a place on
abbrev pub Half : ℕ → ℕ → List ℤ → Type 0
Half kind r l = (i : ℕ) → i < half_degree kind r + 1 → entries l i ≡ polynomial kind r i

abbrev pub HalfFrom : ℕ → ℕ → ℕ → List ℤ → Type 0
HalfFrom from kind r l = (i : ℕ) → i < half_degree kind r + 1 → entries l (from + i) ≡ polynomial kind r i

-- f stands in l from a up to e, and has no coefficient beyond
pub record Part (f : Series) (a e : ℕ) (l : List ℤ) : Type 0 where
  pub inside : (i : ℕ) → i < e - a → entries l (a + i) ≡ f i
  pub past : (i : ℕ) → e - a ≤ i → f i ≡ 0ℤ

-- the polynomial of m was filled in, and what stands before is as it was
pub record Filled (from to kind m : ℕ) (l q : List ℤ) : Type 0 where
  pub whole : Part (polynomial kind m) from to q
  pub before : (i : ℕ) → i < from → entries q i ≡ entries l i

-- p is a prime that m has not, and m p an index at most; the other kind's polynomial of m stands in b, and after it the
-- lower half of this kind's; a has room for the lower half of that of m p
pub record Joining (kind m below p : ℕ) (a b : List ℤ) : Type 0 where
  pub pos : 0 < m
  pub prime : Prime p
  pub new : ¬ (p ∣ m)
  pub small : m * p ≤ 65535
  pub is_below : below ≡ phi m
  pub room : half_degree kind (m * p) + 1 ≤ length a
  pub both : m + 2 ≤ length b
  pub other : Part (polynomial (other_kind kind) m) 0 (degree (other_kind kind) m + 1) b
  pub own : HalfFrom (degree (other_kind kind) m + 1) kind m b

-- a product as it is taken: for F it is divided by z^m - 1
abbrev pub divided : ℕ → ℕ → Series → Series
divided kind m s = cond (eqb kind 1) (s ÷ z^_1 m) s

-- A product's entries, and what its product with F(n) comes to.
use Rattle.std.specs.Prelude.{ℕ, suc, ◌+◌, ◌*◌, ◌-◌, ◌≤◌, min, ◌≡◌, Bool, true, cond, not, List, ◌≢◌, length, ℤ}
use Rattle.definitions.specs.Series.{Series, _ˢ, ◌·◌, firsts}
use Rattle.definitions.specs.Numbers.{phi}
use Rattle.definitions.specs.Polynomials.{F}
use Rattle.definitions.specs.Steps.{entries, some_outside, largest}
use Rattle.definitions.specs.Requests.{good_index}
use Rattle.series.specs.Degree.{ZeroFrom}
use Rattle.series.specs.Mirror.{mirror}
use Rattle.step_laws.specs.Bound.{Bounded}
use Rattle.index.specs.Parts.{parts_of}
use Rattle.index.specs.declared.Parts.{Parts}
use Rattle.light_sums.specs.Weight.{weight}

-- l has `have` entries of a product, none larger than the height, and then zeros, no more than F(n) needs; n is taken
-- apart
pub record Asked (n : ℕ) (parts : Parts) (l : List ℤ) (have height : ℕ) : Type 0 where
  pub good : good_index n ≡ true
  pub apart : parts ≡ parts_of n
  pub some : 1 ≤ have
  pub ends : ZeroFrom have (entries l)
  pub room : length l ≤ have + phi n
  pub bounded : Bounded height (entries l)
  pub inside : height ≤ largest

-- the entries of F(n)
abbrev pub factor : ℕ → List ℤ
factor n = firsts (suc (phi n)) (F n)

-- what is known of the sum of F(n)'s magnitudes: it is no larger than w, or nothing, where w is 2^63 or more
abbrev pub Weighs : ℕ → ℕ → Type 0
Weighs n w = min (weight (factor n)) 9223372036854775808 ≤ w

-- steps modulo 2^64 make the true product: F(1) has a sign that no step has, and else a coefficient, at most the height
-- times that sum, stays in range
pub record Serve (n height : ℕ) : Type 0 where
  pub other : n ≢ 1
  pub light : height * weight (factor n) ≤ largest

-- a series, or its negative
unfoldable pub signed : Bool → Series → Series
signed negate f = cond negate (_ˢ f) f

-- l has room for the product with F(n), whose upper half is the lower one turned round, or the negative of that
pub record Turns (n : ℕ) (l : List ℤ) (have : ℕ) (negate : Bool) : Type 0 where
  pub whole : length l ≡ have + phi n
  pub mirrored : mirror (length l - 1) (F n · entries l) ≡ signed negate (F n · entries l)

-- the product with F(n) stands in m, or a coefficient of it is out of range
pub record Multiplied (n : ℕ) (l m : List ℤ) (fits : Bool) : Type 0 where
  pub inside : fits ≡ not (some_outside largest 0 (length l) (F n · entries l))
  pub leaves : fits ≡ true → m ≡ firsts (length l) (F n · entries l)
  pub len : length m ≡ length l

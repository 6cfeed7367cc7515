-- The sum of the products of a light factor's entries with one half of the other's, the high one or the low one, as far
-- as the term j: what it is, and how large it can be.
use Rattle.std.specs.Prelude.{◌≡◌, refl, Bool, true, false, List, ℕ, ◌*◌, ◌≤◌, ℤ, nat_abs}
use Rattle.definitions.specs.Integers.{0ℤ}
use Rattle.definitions.specs.Steps.{entries}
use Rattle.light_sums.specs.Dots.{dot}
use Rattle.light_sums.specs.Weight.{weight_to}
use Rattle.light_sums.specs.declared.light.Sums.{Sums}
use Rattle.light_sums.specs.Terms.{through, high_half, low_half, low-none}

unfoldable pub half_of : Bool → ℤ → ℤ
half_of true n = high_half n
half_of false n = low_half n

pub half-none : (high : Bool) → half_of high 0ℤ ≡ 0ℤ
unfolding half_of
half-none true = refl
half-none false = low-none

pub record LightTo (high : Bool) (f b : List ℤ) (i j : ℕ) (s : ℤ) : Type 0 where
  pub sum : s ≡ dot (entries f) (through (half_of high) b) i j
  pub small : nat_abs s ≤ weight_to (entries f) j * 4294967296

-- both sums as far as the term j
pub record SumsTo (f b : List ℤ) (i j : ℕ) (sums : Sums) : Type 0 where
  pub high : LightTo true f b i j sums.high
  pub low : LightTo false f b i j sums.low

-- How far the chains of an accumulate are taken. The place x belongs to the chain of its remainder x % d.
use Rattle.std.specs.Prelude.{ℕ, ◌+◌, ◌%◌, ◌<◌, ◌≤◌, ◌≡◌, List, length, get_or, ℤ}
use Rattle.definitions.specs.Integers.{◌⊕◌, 0ℤ}
use Rattle.definitions.specs.Steps.{accumulated, entries}

-- the sum at the place j of a row that begins at k: of the entry and of what its chain's entries before it come to
abbrev pub sum_at : List ℤ → List ℤ → ℕ → ℕ → ℤ
sum_at s a k j = get_or a (k + j) 0ℤ ⊕ get_or s j 0ℤ

-- the first q entries of a row that begins at k have got their running sums added; the sums and the entries were s and
-- a, and are s' and a'
pub record RowTaken (k q : ℕ) (s a s' a' : List ℤ) : Type 0 where
  pub sums : length s' ≡ length s
  pub len : length a' ≡ length a
  pub carried : (j : ℕ) → j < q → get_or s' j 0ℤ ≡ sum_at s a k j
  pub waiting : (j : ℕ) → q ≤ j → get_or s' j 0ℤ ≡ get_or s j 0ℤ
  pub new : (j : ℕ) → j < q → get_or a' (k + j) 0ℤ ≡ sum_at s a k j
  pub others : (x : ℕ) → (k ≤ x → x < k + q → ⊥) → get_or a' x 0ℤ ≡ get_or a x 0ℤ

-- a property of each place of the chains from `from` on and below `to`, before the place `end`
abbrev pub Each : ℕ → ℕ → ℕ → ℕ → List ℤ → (ℕ → Type 0) → Type 0
Each d from to end l P = (x : ℕ) → from ≤ x % d → x % d < to → x < end → x < length l → P x

-- these places of l were taken, which left m: they hold the accumulate's values, and all others are as they were
pub record Taken (d from to end : ℕ) (l m : List ℤ) : Type 0 where
  pub len : length m ≡ length l
  pub new : Each d from to end l (λ x. get_or m x 0ℤ ≡ accumulated d (entries l) x)
  pub lower : (x : ℕ) → x % d < from → x < length l → get_or m x 0ℤ ≡ entries l x
  pub upper : (x : ℕ) → to ≤ x % d → x < length l → get_or m x 0ℤ ≡ entries l x
  pub later : (x : ℕ) → end ≤ x → x < length l → get_or m x 0ℤ ≡ entries l x

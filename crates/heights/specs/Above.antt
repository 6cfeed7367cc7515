-- The next place of a slice with a magnitude above h.
use Rattle.std.specs.Prelude.{ℕ, ◌<◌, ◌≤◌, List, length, get_or, ℤ, nat_abs}
use Rattle.definitions.specs.Integers.{0ℤ}

-- none from i on and below j has one
pub record NoneAbove (h : ℕ) (cs : List ℤ) (i j : ℕ) : Type 0 where
  pub low : (k : ℕ) → i ≤ k → k < j → nat_abs (get_or cs k 0ℤ) ≤ h

-- r is the first from i on, or the end
pub record NextAbove (h : ℕ) (cs : List ℤ) (i r : ℕ) : Type 0 where
  pub later : i ≤ r
  pub inside : r ≤ length cs
  pub passed : NoneAbove h cs i r
  pub larger : r < length cs → h < nat_abs (get_or cs r 0ℤ)

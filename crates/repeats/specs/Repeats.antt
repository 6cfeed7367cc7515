-- Values that come again and again, which is what an accumulate makes of the first few, and a row of sums.
use Rattle.std.specs.Prelude.{ℕ, ◌-◌, ◌<◌, ◌≤◌, ◌≡◌, List, length, take, ℤ}
use Rattle.definitions.specs.Integers.{◌⊕◌}
use Rattle.definitions.specs.Series.{Series, firsts}
use Rattle.definitions.specs.Steps.{accumulated, entries}

-- every value from d on is the one d before
abbrev pub Again : ℕ → Series → Type 0
Again d f = (i : ℕ) → d ≤ i → f i ≡ f (i - d)

-- the first d entries again and again
unfoldable pub repeated : ℕ → List ℤ → List ℤ
repeated d l = firsts (length l) (accumulated d (entries (take d l)))

-- l became m: from `from` up to `to` an entry is the sum of those x and d before it, and those below stayed
pub record SummedTo (x d from to : ℕ) (l m : List ℤ) : Type 0 where
  pub below : (k : ℕ) → k < from → entries m k ≡ entries l k
  pub sums : (k : ℕ) → from ≤ k → k < to → entries m k ≡ entries l (k - x) ⊕ entries l (k - d)
  pub len : length m ≡ length l

-- An accumulate modulo 2^64 that goes by rows of d neighbours, one of each chain, and carries a running sum of each.
use Rattle.std.specs.Prelude.{ℕ, ◌+◌, ◌-◌, ◌<◌, ◌≤◌, ◌≡◌, List, length, get_or, ℤ}
use Rattle.definitions.specs.Integers.{◌⊕◌, 0ℤ}
use Rattle.wrapped_sums.specs.Wrapped.{wrap}

-- what is stored at the place q of the row that begins at k
abbrev pub row_sum : List ℤ → List ℤ → ℕ → ℕ → ℤ
row_sum s a k q = wrap (get_or a (k + q) 0ℤ ⊕ get_or s q 0ℤ)

-- the first d sums are the last entries that were taken: q of the row that begins at k, the others of the row before
pub record Carried (d k q : ℕ) (s a : List ℤ) : Type 0 where
  pub room : d ≤ length s
  pub here : (j : ℕ) → j < q → get_or s j 0ℤ ≡ get_or a (k + j) 0ℤ
  pub before : (j : ℕ) → q ≤ j → j < d → get_or s j 0ℤ ≡ get_or a (k + j - d) 0ℤ

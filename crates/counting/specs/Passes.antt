-- The passes over the heights of some indices, as the code takes them: the row of the least height that is still due,
-- if one is, found by joining one index after the other, from the last to the first.
use Rattle.std.specs.Prelude.{ℕ, suc, ◌+◌, ◌*◌, ◌≤◌, ◌<◌, ◌≡◌, cond, List, [], ◌∷◌, ◌++◌, map, length, drop, ltb, ℤ, pos, Option, Some, None}
use Rattle.definitions.specs.Answer.{height}
use Rattle.counting.specs.Census.{indices}
use Rattle.counting.specs.declared.passes.Row.{Row}

-- the heights of some indices, as entries
unfoldable pub heights_of : List ℕ → List ℤ
heights_of ns = map (λ n. pos (height 1 n)) ns

-- they are those of the indices from a on, up to 4,095
pub record Heights (a : ℕ) (l : List ℤ) : Type 0 where
  pub some : 0 < a
  pub most : a + length l ≤ 4096
  pub are : l ≡ heights_of (indices a (length l))

-- a row's three numbers
abbrev pub row_list : Row → List ℕ
row_list row = row.height ∷ row.smallest ∷ row.count ∷ []

-- the row of a height that only index n has
abbrev pub first_of : (h n : ℕ) → Row
first_of h n = record { height = h; smallest = n; count = 1 }

-- the row of the least height, and index n of height h
unfoldable pub row_with : (h n : ℕ) → Row → Row
row_with h n row =
    cond (ltb h row.height) (first_of h n)
    (cond (ltb row.height h) row (record { height = h; smallest = n; count = suc row.count }))

-- the row that is being found, if one is due yet, and index n of height h
unfoldable pub joined_to : (due h n : ℕ) → Option Row → Option Row
joined_to due h n None = cond (ltb h due) None (Some (first_of h n))
joined_to due h n (Some row) = cond (ltb h due) (Some row) (Some (row_with h n row))

-- the row of the least height from `due` on, if one is due
unfoldable pub next_row : (due : ℕ) → List ℕ → Option Row
next_row due [] = None
next_row due (n ∷ ns) = joined_to due (height 1 n) n (next_row due ns)

-- all rows are left in what was lent, and counted; or they don't fit, and it is as it was
abbrev pub LaidIs : (all rows₀ rows : List ℕ) → Option ℕ → Type 0
LaidIs all rows₀ rows (Some count) =
    (length all ≤ length rows₀) × (3 * count ≡ length all) × (rows ≡ all ++ drop (length all) rows₀)
LaidIs all rows₀ rows None = (length rows₀ < length all) × (rows ≡ rows₀)

-- What the shaping passes leave, entry by entry.
use Rattle.std.specs.Prelude.{ℕ, ◌-◌, ◌<◌, ◌≤◌, cond, List, ℤ, nat_abs, ltb}
use Rattle.definitions.specs.Integers.{⊖}
use Rattle.definitions.specs.Series.{Series}
use Rattle.definitions.specs.Steps.{entries, largest}

-- each of the first n entries can be negated
abbrev pub InRange : ℕ → List ℤ → Type 0
InRange n l = (i : ℕ) → i < n → nat_abs (entries l i) ≤ largest

-- the entries from r on are the negatives of those r before
unfoldable pub negated_copy : ℕ → Series → Series
negated_copy r f i = cond (ltb i r) (f i) (⊖ (f (i - r)))

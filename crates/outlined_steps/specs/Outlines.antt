-- Entries that are told by the first few of them: after these come zeros, or the same again and again, which is what
-- an accumulate of that size makes of them.
use Rattle.std.specs.Prelude.{ℕ, ◌≤◌, ◌≡◌, cond, List, length, take, ℤ}
use Rattle.definitions.specs.Series.{Series, firsts}
use Rattle.definitions.specs.Steps.{accumulated, entries}
use Rattle.outlined_steps.specs.declared.Outline.{Outline}

-- one entry at least is told, and no more than there are
pub record Told (o : Outline) (l : List ℤ) : Type 0 where
  pub some : 1 ≤ o.told
  pub room : o.told ≤ length l

-- l became m, whose first `to` entries tell with zeros after them what the first `told` of l do
pub record ToldTo (told to : ℕ) (l m : List ℤ) : Type 0 where
  pub same : (k : ℕ) → entries (take to m) k ≡ entries (take told l) k
  pub len : length m ≡ length l

unfoldable pub spelled : Outline → List ℤ → Series
spelled o l = cond o.repeats (accumulated o.told (entries (take o.told l))) (entries (take o.told l))

unfoldable pub outlined : Outline → List ℤ → List ℤ
outlined o l = firsts (length l) (spelled o l)

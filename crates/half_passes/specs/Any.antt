-- Is something so at one of the first so many places? And what is looked for: entry i of n has another than its image at
-- the place that mirrors it.
use Rattle.std.specs.Prelude.{ℕ, zero, suc, ◌-◌, Bool, false, ◌||◌, List, ℤ}
use Rattle.definitions.specs.Steps.{entries}
use Rattle.definitions.specs.Halves.{image, differ}

unfoldable pub any_to : (ℕ → Bool) → ℕ → Bool
any_to p zero = false
any_to p (suc k) = any_to p k || p k

abbrev pub other_at : Bool → List ℤ → ℕ → ℕ → Bool
other_at negate cs n i = differ (entries cs (n - 1 - i)) (image negate (entries cs i))

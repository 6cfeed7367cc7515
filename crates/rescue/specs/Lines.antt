-- The lines on standard error, one for each skipped stretch.
use Rattle.std.specs.Prelude.{ℕ, ◌+◌, ◌*◌, ◌<◌, ◌≡◌, List, [], ◌∷◌, ◌++◌, length, get_or, pos}
use Rattle.text.specs.Text.{NEWLINE, decimal, spaced}
use Rattle.rescuing.specs.Rescue.{listed}

-- a start and a length in decimal, with a space between them, and a newline
unfoldable pub line_of : (start length : ℕ) → List ℕ
line_of start k = decimal start ++ (spaced (pos k ∷ []) ++ (NEWLINE ∷ []))

-- stretch i of a damaged shelf, counted from 0, is one of those that are skipped, and starts there and is so long
pub record Stretch (shelf : List ℕ) (i start size : ℕ) : Type 0 where
  pub skipped : 2 * i + 1 < length (listed shelf)
  pub starts : start ≡ get_or (listed shelf) (2 * i) 0
  pub spans : size ≡ get_or (listed shelf) (2 * i + 1) 0

-- A shelf cut into its records: what the theorems on the reader and on the walk are said with. No contract cites it.
use Rattle.std.specs.Prelude.{ℕ, zero, suc, ◌+◌, ◌≡◌, List, [], ◌∷◌, ◌++◌, ◌⊎◌, length}
use Rattle.definitions.specs.Codes.{DONE}
use Rattle.record.specs.Header.{kind_in, index_in, degree_in}
use Rattle.shelf.specs.Format.{size_in, look_code}
use Rattle.browsing.specs.declared.Shown.{Shown}
use Rattle.browsing.specs.declared.Shown.TheVariants.{Record, Refused, End}
use Rattle.browsing.specs.Browse.{turn_at}

-- a record that is all of some bytes; and each of some stretches is one
abbrev pub Whole : List ℕ → Type 0
Whole s = (look_code s ≡ DONE) × (size_in s ≡ length s)

abbrev pub Records : List (List ℕ) → Type 0
Records [] = Unit
Records (s ∷ ss) = Whole s × Records ss

-- stretches one after another, and then some bytes
unfoldable pub laid : List (List ℕ) → List ℕ → List ℕ
laid [] rest = rest
laid (s ∷ ss) rest = s ++ laid ss rest

-- the shelf is these records and then a rest, which is empty or doesn't read
abbrev pub Rest : List ℕ → Type 0
Rest bytes = (bytes ≡ []) ⊎ (look_code bytes ≡ DONE → ⊥)

abbrev pub Cut : List ℕ → List (List ℕ) → List ℕ → Type 0
Cut shelf ss rest = (shelf ≡ laid ss rest) × Records ss × Rest rest

-- each record as it is shown, from a place on
unfoldable pub shown_as : ℕ → List (List ℕ) → List Shown
shown_as at [] = []
shown_as at (s ∷ ss) = Record at (at + length s) (kind_in s) (index_in s) (degree_in s) ∷ shown_as (at + length s) ss

-- what the rest shows at its place
unfoldable pub rest_as : ℕ → List ℕ → Shown
rest_as at [] = End at
rest_as at (b ∷ bs) = Refused (look_code (b ∷ bs)) at

-- what a reader at a place gives, so many times one after another, and where it is then
unfoldable pub gives : ℕ → List ℕ → ℕ → List Shown
gives zero shelf at = []
gives (suc k) shelf at = (turn_at shelf at).shown ∷ gives k shelf (turn_at shelf at).at

unfoldable pub goes : ℕ → List ℕ → ℕ → ℕ
goes zero shelf at = at
goes (suc k) shelf at = goes k shelf (turn_at shelf at).at

unfoldable pub repeated : ℕ → Shown → List Shown
repeated zero s = []
repeated (suc k) s = s ∷ repeated k s

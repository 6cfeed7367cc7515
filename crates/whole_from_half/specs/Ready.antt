-- n is good and taken apart, and the slice has just the room for its polynomial.
use Rattle.std.specs.Prelude.{ℕ, ◌+◌, ◌≡◌, true, List, length, ℤ}
use Rattle.definitions.specs.Polynomials.{degree}
use Rattle.definitions.specs.Requests.{known_kind, good_index}
use Rattle.index.specs.Parts.{parts_of}
use Rattle.index.specs.declared.Parts.{Parts}

pub record Ready (kind n : ℕ) (a : Parts) (l : List ℤ) : Type 0 where
  pub parts : a ≡ parts_of n
  pub known : known_kind kind ≡ true
  pub good : good_index n ≡ true
  pub room : length l ≡ degree kind n + 1

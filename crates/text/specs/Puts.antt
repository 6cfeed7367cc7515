-- A text put into a buffer at a place: what stands there afterwards, and the next place.
use Rattle.std.specs.Prelude.{ℕ, ◌+◌, ◌≡◌, List, length}
use Rattle.std.proofs.lemmas.List.Edits.{sets}

pub record Puts (text : List ℕ) (at : ℕ) (l m : List ℕ) (next : ℕ) : Type 0 where
  pub leaves : m ≡ sets l at text
  pub place : next ≡ at + length text

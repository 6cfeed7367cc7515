-- What the theorems on the lookup are said with. No contract cites it.
use Rattle.std.specs.Prelude.{ℕ, ◌+◌, ◌≡◌, cond, ◌&&◌, List, [], ◌∷◌, ◌++◌, length, eqb}
use Rattle.record.specs.Header.{kind_in, index_in}
use Rattle.shelf.specs.Format.{look_code}
use Rattle.browsing.specs.declared.Shown.{Shown}
use Rattle.browsing.specs.Cut.{Whole, Records, laid}
use Rattle.shelves.specs.declared.Walked.{Walked}
use Rattle.shelves.specs.declared.Walked.TheVariants.{Match, Stopped, Ended}
use Rattle.shelves.specs.Walk.{onward}

-- the first of some records that is of a kind and an index, from a place on; and the rest where none is
unfoldable pub first_of : (kind n : ℕ) → ℕ → List (List ℕ) → List ℕ → Walked
first_of kind n at [] [] = Ended
first_of kind n at [] (b ∷ bs) = Stopped (look_code (b ∷ bs)) at
first_of kind n at (s ∷ ss) rest =
    cond (eqb (kind_in s) kind && eqb (index_in s) n) (Match at (at + length s))
    (first_of kind n (at + length s) ss rest)

-- none of some records is of that kind and index
abbrev pub Others : (kind n : ℕ) → List (List ℕ) → Type 0
Others kind n [] = Unit
Others kind n (s ∷ ss) = ((kind_in s ≡ kind) × (index_in s ≡ n) → ⊥) × Others kind n ss

-- a shelf is records, to its end, and none is of that kind and index
abbrev pub None : (kind n : ℕ) → List ℕ → Type 0
None kind n shelf = (ss : List (List ℕ)) × (shelf ≡ laid ss []) × Records ss × Others kind n ss

-- a stretch that starts at a place of a shelf is its first record of a kind and an index: it is a record, of that kind
-- and index, and what stands before it are records that are not
pub record First (kind n : ℕ) (shelf : List ℕ) (start : ℕ) (s : List ℕ) : Type 0 where
  pub whole : Whole s
  pub kind_is : kind_in s ≡ kind
  pub index_is : index_in s ≡ n
  pub before : List (List ℕ)
  pub after : List ℕ
  pub stands : shelf ≡ laid before (s ++ after)
  pub at : start ≡ length (laid before [])
  pub records : Records before
  pub others : Others kind n before

-- a run of a reader, to the first match
unfoldable pub run_to : (kind n : ℕ) → List Shown → Walked
run_to kind n [] = Ended
run_to kind n (s ∷ ss) = onward kind n (λ _. run_to kind n ss) s

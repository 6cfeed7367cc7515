-- What the passes tell, as the inner functions' contracts have it.
use Rattle.std.specs.Prelude.{ℕ, ◌+◌, ◌≡◌, true, false, List, length, drop, Result, MatchResult}
use Rattle.std.specs.declared.ops.Range.{Range}
use Rattle.keeping.specs.declared.Cramped.{Cramped}
use Rattle.keeping.specs.Keepable.{to_next, cramped_to}
use Rattle.rescuing.specs.Rescue.{size_at, searches, cramped_by, kept, listed}
use Rattle.rescuing.specs.declared.passes.Count.{Count}

-- where the record that a search from a place on found stands
pub record FoundIs (room : ℕ) (shelf : List ℕ) (at : ℕ) (r : Range ℕ) : Type 0 where
  pub free : cramped_to room (drop at shelf) ≡ false
  pub start : r.start ≡ at + to_next (drop at shelf)
  pub end : r.end ≡ r.start + size_at (drop r.start shelf)

abbrev pub NextIs : (room : ℕ) → List ℕ → (at : ℕ) → Result (Range ℕ) Cramped → Type 0
NextIs room shelf at r =
    MatchResult r (λ found. FoundIs room shelf at found) (λ _. cramped_to room (drop at shelf) ≡ true)

-- all of them
pub record CountedAll (room : ℕ) (shelf : List ℕ) (count : Count) : Type 0 where
  pub free : cramped_by room (searches shelf) ≡ false
  pub kept : count.kept ≡ length (Rattle.rescuing.specs.Rescue.kept shelf)
  pub slots : count.slots ≡ length (listed shelf)

abbrev pub CountIs : (room : ℕ) → List ℕ → Result Count Cramped → Type 0
CountIs room shelf r =
    MatchResult r (λ count. CountedAll room shelf count) (λ _. cramped_by room (searches shelf) ≡ true)

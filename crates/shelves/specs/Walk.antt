-- The walk over a shelf (docs/RULES.md, 'Two shelves'): from its start until its end or the first record that doesn't
-- read, and no further than the first record of a kind and an index.
use Rattle.std.specs.Prelude.{ℕ, zero, suc, cond, ◌&&◌, List, length, eqb}
use Rattle.browsing.specs.declared.Shown.{Shown}
use Rattle.browsing.specs.declared.Shown.TheVariants.{Record, Refused, End}
use Rattle.browsing.specs.Browse.{shown_at}
use Rattle.shelves.specs.declared.Walked.{Walked}
use Rattle.shelves.specs.declared.Walked.TheVariants.{Match, Stopped, Ended}

-- of what two parts of a walk came to, the earlier counts, if it came to something
unfoldable pub earlier : Walked → Walked → Walked
earlier (Match start end) w = Match start end
earlier (Stopped code start) w = Stopped code start
earlier Ended w = w

-- a record by itself: a match, if it is asked for
unfoldable pub asked : (kind n : ℕ) → (k m start end : ℕ) → Walked
asked kind n k m start end = cond (eqb k kind && eqb m n) (Match start end) Ended

-- what is shown, and the walk from there on
unfoldable pub onward : (kind n : ℕ) → (ℕ → Walked) → Shown → Walked
onward kind n more (Record start end k m degree) = earlier (asked kind n k m start end) (more end)
onward kind n more (Refused code start) = Stopped code start
onward kind n more (End start) = Ended

-- the walk from a place on, of at most so many records
unfoldable pub walk_from : ℕ → (kind n : ℕ) → List ℕ → ℕ → Walked
walk_from zero kind n shelf at = Ended
walk_from (suc most) kind n shelf at = onward kind n (walk_from most kind n shelf) (shown_at shelf at)

-- a shelf has no more records than bytes
unfoldable pub walked : (kind n : ℕ) → List ℕ → Walked
walked kind n shelf = walk_from (length shelf) kind n shelf 0

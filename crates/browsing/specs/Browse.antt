-- What is shown of a shelf at a place (docs/RULES.md, 'Two shelves'): a record that reads, a refusal, or the end; the
-- numbers that document 02 has for each, the place after it, and the stretch of the shelf, where it lies.
use Rattle.std.specs.Prelude.{ℕ, ◌+◌, ◌-◌, min, cond, List, length, take, drop, leb, eqb}
use Rattle.std.specs.Borrow.{Bor}
use Rattle.definitions.specs.Codes.{DONE}
use Rattle.record.specs.Header.{kind_in, index_in, degree_in}
use Rattle.shelf.specs.Format.{size_in, look_code}
use Rattle.browsing.specs.declared.Shown.{Shown}
use Rattle.browsing.specs.declared.Shown.TheVariants.{Record, Refused, End}
use Rattle.browsing.specs.declared.Turn.{Turn}
use Rattle.browsing.specs.declared.Browsed.{Browsed}

-- some bytes that stand at a place: a record where the look refuses nothing
unfoldable pub shown_of : ℕ → List ℕ → Shown
shown_of at bytes =
    cond (eqb (look_code bytes) DONE)
    (Record at (at + size_in bytes) (kind_in bytes) (index_in bytes) (degree_in bytes))
    (Refused (look_code bytes) at)

-- at or past its end a shelf has nothing
unfoldable pub shown_at : List ℕ → ℕ → Shown
shown_at shelf at = cond (leb (length shelf) at) (End (length shelf)) (shown_of at (drop at shelf))

-- the place after: past a record; a refusal and the end stay
unfoldable pub place_after : Shown → ℕ
place_after (Record start end kind n degree) = end
place_after (Refused code start) = start
place_after (End start) = start

unfoldable pub turn_at : List ℕ → ℕ → Turn
turn_at shelf at = record { shown = shown_at shelf at; at = place_after (shown_at shelf at) }

-- each case in document 02's numbers
unfoldable pub told : Shown → Browsed
told (Record start end kind n degree) =
    record { code = DONE; start = start; length = end - start; kind = kind; n = n; degree = degree }
told (Refused code start) = record { code = code; start = start; length = 0; kind = 0; n = 0; degree = 0 }
told (End start) = record { code = DONE; start = start; length = 0; kind = 0; n = 0; degree = 0 }

-- the stretch of a record: where it starts and how long it is; a refusal and the end have an empty one
unfoldable pub start_of : Shown → ℕ
start_of (Record start end kind n degree) = start
start_of (Refused code start) = 0
start_of (End start) = 0

unfoldable pub length_of : Shown → ℕ
length_of (Record start end kind n degree) = end - start
length_of (Refused code start) = 0
length_of (End start) = 0

-- A part of a slice that is lent: what stands in it, and where it lies, so many bytes past the start of the slice or,
-- where it has fewer, at its end. So it is that very part, and no copy.
unfoldable pub part_of : Bor (List ℕ) → (start length : ℕ) → List ℕ
part_of s start k = take k (drop start s.now)

unfoldable pub lies : Bor (List ℕ) → (start : ℕ) → ℕ × ℕ
lies s start = (s.ref_ptr.0, min start (length s.now) + s.ref_ptr.1)

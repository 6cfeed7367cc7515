-- What the inner functions of the search tell: whether the record that some bytes start with is kept, and where the next
-- one is, or that there is too little room for one; whether what was made stands in a record; and that no mark starts
-- from one place to another.
use Rattle.std.specs.Prelude.{ℕ, ◌+◌, ◌*◌, ◌≤◌, ◌<◌, ◌≡◌, Bool, cond, not, ◌&&◌, List, length, drop, get_or, eqb, ℤ, Result, Ok, Err}
use Rattle.definitions.specs.Answer.{height_of}
use Rattle.widths.specs.Numbers.{top, coefficients_at, widths, least_of}
use Rattle.record.specs.Header.{width_in}
use Rattle.keeping.specs.declared.Cramped.{Cramped}
use Rattle.keeping.specs.Keepable.{differ_to, keepable, cramped, to_next, cramped_to}

-- too little room
abbrev pub too_little : Cramped
too_little = record {}

unfoldable pub tried_of : (room : ℕ) → List ℕ → Result Bool Cramped
tried_of room bytes = cond (cramped room bytes) (Err too_little) (Ok (keepable bytes))

-- the search from a place on, in what is left there
unfoldable pub sought_of : (room from : ℕ) → List ℕ → Result ℕ Cramped
sought_of room from left = cond (cramped_to room left) (Err too_little) (Ok (from + to_next left))

-- some coefficients of a height that asks for a record's width: they can be compared, and they stand in it
abbrev pub Comparable : List ℕ → (height : ℕ) → List ℤ → Type 0
Comparable bytes height made =
    least_of widths height ≡ width_in bytes
    → (10 + length made * width_in bytes ≤ length bytes) × (height_of made ≤ top (width_in bytes))

abbrev pub stands_in : List ℕ → (height : ℕ) → List ℤ → Bool
stands_in bytes height made =
    eqb (least_of widths height) (width_in bytes)
    && not (differ_to (length made) (coefficients_at (width_in bytes) (length made) (drop 10 bytes)) made)

abbrev pub Unmarked : List ℕ → (from to : ℕ) → Type 0
Unmarked shelf from to = (i : ℕ) → from ≤ i → i < to → get_or shelf i 0 ≡ 0xC9 → ⊥

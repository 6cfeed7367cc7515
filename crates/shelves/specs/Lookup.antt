-- The lookup in two shelves (docs/RULES.md, 'Two shelves'): what is answered, and the stretch that is handed back.
use Rattle.std.specs.Prelude.{ℕ, ◌-◌, cond, not, List, eqb}
use Rattle.std.specs.Borrow.{Bor}
use Rattle.definitions.specs.Codes.{DONE, KIND, INDEX, ABSENT}
use Rattle.definitions.specs.Requests.{known_kind, good_index}
use Rattle.browsing.specs.Browse.{part_of, lies}
use Rattle.shelves.specs.declared.Walked.{Walked}
use Rattle.shelves.specs.declared.Walked.TheVariants.{Match, Stopped, Ended}
use Rattle.shelves.specs.declared.Found.{Found}
use Rattle.shelves.specs.Walk.{walked}

-- the shelves by their numbers; 0 is none
abbrev pub OWN : ℕ
OWN = 1

abbrev pub HOUSE : ℕ
HOUSE = 2

-- a refusal: the byte and the shelf where a record doesn't read, 0 and 0 elsewhere
unfoldable pub refused : (code byte shelf : ℕ) → Found
refused code byte shelf = record { code = code; byte = byte; shelf = shelf; from = 0; start = 0; length = 0 }

-- a walk over a shelf decides, or leaves it to `others`
unfoldable pub found_by : (shelf : ℕ) → Walked → (others : Found) → Found
found_by shelf (Match start end) others =
    record { code = DONE; byte = 0; shelf = 0; from = shelf; start = start; length = end - start }
found_by shelf (Stopped code start) others = refused code start shelf
found_by shelf Ended others = others

unfoldable pub found : (kind n : ℕ) → (own house : List ℕ) → Found
found kind n own house =
    cond (not (known_kind kind)) (refused KIND 0 0)
    (cond (not (good_index n)) (refused INDEX 0 0)
    (found_by OWN (walked kind n own) (found_by HOUSE (walked kind n house) (refused ABSENT 0 0))))

-- that very stretch of whichever shelf held it, what stands in it and where it lies; an empty one with a refusal
unfoldable pub held_by : Found → (own house : Bor (List ℕ)) → List ℕ
held_by f own house =
    cond (eqb f.from OWN) (part_of own f.start f.length)
    (cond (eqb f.from HOUSE) (part_of house f.start f.length) (part_of house 0 0))

unfoldable pub held_at : Found → (own house : Bor (List ℕ)) → ℕ × ℕ
held_at f own house =
    cond (eqb f.from OWN) (lies own f.start) (cond (eqb f.from HOUSE) (lies house f.start) (lies house 0))

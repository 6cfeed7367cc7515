-- Lookups computed from the definitions.
use Rattle.std.specs.Prelude.{ℕ, ◌≡◌, refl, List, [], ◌∷◌, ◌++◌, map, set, take}
use Rattle.definitions.specs.Codes.{DONE, KIND, INDEX, CUT, MARK, WIDTH, ABSENT}
use Rattle.definitions.specs.Numbers.{some_to, count_to, divides, share_factor, phi}
use Rattle.definitions.specs.Polynomials.{degree}
use Rattle.definitions.specs.Requests.{known_kind, good_index}
use Rattle.definitions.specs.Answer.{height_of}
use Rattle.widths.specs.Numbers.{number, top, signed_of, coefficients_at, one_of, least_of, width}
use Rattle.record.specs.Header.{marked, degree_in, field_code, header_code}
use Rattle.forms.specs.Format.{stored_in, size_in, read_code, look_code}
use Rattle.browsing.specs.Browse.{shown_of, shown_at}
use Rattle.shelves.specs.declared.Found.{Found}
use Rattle.shelves.specs.Walk.{earlier, asked, onward, walk_from, walked}
use Rattle.shelves.specs.Lookup.{OWN, HOUSE, refused, found_by, found}

-- F(6) with 1 -1 1, of 13 bytes, and with 5 5 -5; I(3) with -1 1, of 12; and F(6) with -128 at its end
F6 : List ℕ
F6 = 0xC9 ∷ 0x50 ∷ 1 ∷ 1 ∷ 6 ∷ 0 ∷ 3 ∷ 0 ∷ 0 ∷ 0 ∷ 1 ∷ 0xFF ∷ 1 ∷ []

other : List ℕ
other = 0xC9 ∷ 0x50 ∷ 1 ∷ 1 ∷ 6 ∷ 0 ∷ 3 ∷ 0 ∷ 0 ∷ 0 ∷ 5 ∷ 5 ∷ 0xFB ∷ []

I3 : List ℕ
I3 = 0xC9 ∷ 0x50 ∷ 2 ∷ 1 ∷ 3 ∷ 0 ∷ 2 ∷ 0 ∷ 0 ∷ 0 ∷ 0xFF ∷ 1 ∷ []

narrow : List ℕ
narrow = set F6 12 0x80

-- a lookup, in numbers: code, byte, shelf, from, start, length
row : Found → List ℕ
row f = f.code ∷ f.byte ∷ f.shelf ∷ f.from ∷ f.start ∷ f.length ∷ []

-- one's own first, and the first of a shelf; the house's; neither; a record that doesn't read before the match and
-- after it; one's own stops, and the house has it; the house stops; a kind and an index that there are not
lookups :
    map row
    (found 1 6 (I3 ++ F6) other ∷ found 1 6 (other ++ F6) [] ∷ found 2 3 F6 (other ++ I3) ∷ found 1 3 F6 I3
    ∷ found 1 6 (narrow ++ F6) F6 ∷ found 1 6 (F6 ++ narrow) [] ∷ found 1 6 (take 5 F6) F6 ∷ found 1 6 I3 (I3 ++ 0 ∷ F6)
    ∷ found 3 6 F6 [] ∷ found 1 65536 F6 [] ∷ [])
    ≡ (DONE ∷ 0 ∷ 0 ∷ OWN ∷ 12 ∷ 13 ∷ []) ∷ (DONE ∷ 0 ∷ 0 ∷ OWN ∷ 0 ∷ 13 ∷ []) ∷ (DONE ∷ 0 ∷ 0 ∷ HOUSE ∷ 13 ∷ 12 ∷ [])
    ∷ (ABSENT ∷ 0 ∷ 0 ∷ 0 ∷ 0 ∷ 0 ∷ []) ∷ (WIDTH ∷ 0 ∷ OWN ∷ 0 ∷ 0 ∷ 0 ∷ []) ∷ (DONE ∷ 0 ∷ 0 ∷ OWN ∷ 0 ∷ 13 ∷ [])
    ∷ (CUT ∷ 0 ∷ OWN ∷ 0 ∷ 0 ∷ 0 ∷ []) ∷ (MARK ∷ 12 ∷ HOUSE ∷ 0 ∷ 0 ∷ 0 ∷ []) ∷ (KIND ∷ 0 ∷ 0 ∷ 0 ∷ 0 ∷ 0 ∷ [])
    ∷ (INDEX ∷ 0 ∷ 0 ∷ 0 ∷ 0 ∷ 0 ∷ []) ∷ []
unfolding F6 other I3 narrow row found found_by refused walked walk_from onward asked earlier shown_at shown_of look_code
    read_code header_code marked field_code known_kind good_index one_of degree_in degree phi count_to share_factor some_to
    divides stored_in size_in coefficients_at signed_of number top width least_of height_of
lookups = refl

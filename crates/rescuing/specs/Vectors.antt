-- A rescue computed from the definitions.
use Rattle.std.specs.Prelude.{ℕ, ◌≡◌, refl, List, [], ◌∷◌, ◌++◌}
use Rattle.definitions.specs.Codes.{DONE, SHORT}
use Rattle.definitions.specs.Integers.{◌⊕◌, ⊖, ◌⊗◌}
use Rattle.definitions.specs.Numbers.{some_to, count_to, divides, share_factor, phi}
use Rattle.definitions.specs.Series.{constant, ◌+ˢ◌, _ˢ, ◌·◌, ◌÷◌, z^, firsts}
use Rattle.definitions.specs.Polynomials.{product_to, at_divisors, z^_1, family_to, F, I, polynomial, degree}
use Rattle.definitions.specs.Steps.{entries}
use Rattle.definitions.specs.Requests.{known_kind}
use Rattle.definitions.specs.Answer.{coefficients, height_of}
use Rattle.definitions.specs.Halves.{differ}
use Rattle.widths.specs.Numbers.{number, top, signed_of, coefficients_at, one_of, least_of, width}
use Rattle.record.specs.Header.{marked, degree_in, field_code, header_code}
use Rattle.forms.specs.Format.{stored_in, coefficients_in, size_in, read_code, look_code}
use Rattle.keeping.specs.Keepable.{differ_to, another, keepable, cramped, to_next, cramped_to}
use Rattle.rescuing.specs.Rescue.{skipped_by, found_by, left_by, searches_to, searches, kept_by, stretch, listed_by}
use Rattle.rescuing.specs.Rescue.{cramped_by, kept, listed, rescue_code}

-- F(6), of 13 bytes, and with 5 5 -5; I(3), of 12
F6 : List ℕ
F6 = 0xC9 ∷ 0x50 ∷ 1 ∷ 1 ∷ 6 ∷ 0 ∷ 3 ∷ 0 ∷ 0 ∷ 0 ∷ 1 ∷ 0xFF ∷ 1 ∷ []

other : List ℕ
other = 0xC9 ∷ 0x50 ∷ 1 ∷ 1 ∷ 6 ∷ 0 ∷ 3 ∷ 0 ∷ 0 ∷ 0 ∷ 5 ∷ 5 ∷ 0xFB ∷ []

I3 : List ℕ
I3 = 0xC9 ∷ 0x50 ∷ 2 ∷ 1 ∷ 3 ∷ 0 ∷ 2 ∷ 0 ∷ 0 ∷ 0 ∷ 0xFF ∷ 1 ∷ []

-- a byte, F(6), a mark, I(3), and one that reads well and is another polynomial: 41 bytes
damaged : List ℕ
damaged = 7 ∷ F6 ++ (0xC9 ∷ 0x50 ∷ I3 ++ other)

-- what is kept and what is skipped; and the rooms: just enough, and one too few of each
rescued :
    (kept damaged ≡ F6 ++ I3) × (listed damaged ≡ 0 ∷ 1 ∷ 14 ∷ 2 ∷ 28 ∷ 13 ∷ [])
    × (rescue_code damaged 25 6 3 ≡ DONE) × (rescue_code damaged 24 6 3 ≡ SHORT) × (rescue_code damaged 25 5 3 ≡ SHORT)
    × (rescue_code damaged 25 6 2 ≡ SHORT)
unfolding F6 other I3 damaged kept listed rescue_code cramped_by listed_by stretch kept_by searches searches_to left_by
    found_by skipped_by cramped_to to_next cramped keepable another differ_to differ entries coefficients firsts polynomial F
    I family_to product_to at_divisors z^_1 z^ constant ◌+ˢ◌ _ˢ ◌·◌ ◌÷◌ ◌⊕◌ ⊖ ◌⊗◌ look_code read_code header_code marked
    field_code known_kind one_of degree_in degree phi count_to share_factor some_to divides coefficients_in stored_in size_in
    coefficients_at signed_of number top width least_of height_of
rescued = (refl, refl, refl, refl, refl, refl)

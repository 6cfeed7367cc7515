-- What is shown of a shelf, computed from the definitions.
use Rattle.std.specs.Prelude.{ℕ, ◌≡◌, refl, List, [], ◌∷◌, map}
use Rattle.definitions.specs.Codes.{DONE, CUT, MARK, RWIDTH}
use Rattle.definitions.specs.Numbers.{some_to, count_to, divides, share_factor, phi}
use Rattle.definitions.specs.Polynomials.{degree}
use Rattle.definitions.specs.Requests.{known_kind}
use Rattle.definitions.specs.Answer.{height_of}
use Rattle.widths.specs.Numbers.{number, top, signed_of, coefficients_at, one_of, least_of, width}
use Rattle.record.specs.Header.{marked, degree_in, field_code, header_code}
use Rattle.forms.specs.Format.{stored_in, size_in, read_code, look_code}
use Rattle.browsing.specs.declared.Browsed.{Browsed}
use Rattle.browsing.specs.Browse.{shown_of, shown_at, told}

-- F(6), of 13 bytes; I(3), of 12; a record with width 3; 37 bytes in all
shelf : List ℕ
shelf =
    0xC9 ∷ 0x50 ∷ 1 ∷ 1 ∷ 6 ∷ 0 ∷ 3 ∷ 0 ∷ 0 ∷ 0 ∷ 1 ∷ 0xFF ∷ 1
    ∷ 0xC9 ∷ 0x50 ∷ 2 ∷ 1 ∷ 3 ∷ 0 ∷ 2 ∷ 0 ∷ 0 ∷ 0 ∷ 0xFF ∷ 1
    ∷ 0xC9 ∷ 0x50 ∷ 2 ∷ 3 ∷ 3 ∷ 0 ∷ 2 ∷ 0 ∷ 0 ∷ 0 ∷ 0xFF ∷ 1 ∷ []

-- code, start, length, kind, n, degree
row : Browsed → List ℕ
row b = b.code ∷ b.start ∷ b.length ∷ b.kind ∷ b.n ∷ b.degree ∷ []

-- the two records, the third, bytes inside one and fewer than a header has, the end and past it
shown :
    map (λ (at : ℕ). row (told (shown_at shelf at))) (0 ∷ 13 ∷ 25 ∷ 1 ∷ 30 ∷ 37 ∷ 99 ∷ [])
    ≡ (DONE ∷ 0 ∷ 13 ∷ 1 ∷ 6 ∷ 2 ∷ []) ∷ (DONE ∷ 13 ∷ 12 ∷ 2 ∷ 3 ∷ 1 ∷ []) ∷ (RWIDTH ∷ 25 ∷ 0 ∷ 0 ∷ 0 ∷ 0 ∷ [])
    ∷ (MARK ∷ 1 ∷ 0 ∷ 0 ∷ 0 ∷ 0 ∷ []) ∷ (CUT ∷ 30 ∷ 0 ∷ 0 ∷ 0 ∷ 0 ∷ []) ∷ (DONE ∷ 37 ∷ 0 ∷ 0 ∷ 0 ∷ 0 ∷ [])
    ∷ (DONE ∷ 37 ∷ 0 ∷ 0 ∷ 0 ∷ 0 ∷ []) ∷ []
unfolding shelf row told shown_at shown_of look_code read_code header_code marked field_code known_kind one_of degree_in degree
    phi count_to share_factor some_to divides stored_in size_in coefficients_at signed_of number top width least_of
    height_of
shown = refl

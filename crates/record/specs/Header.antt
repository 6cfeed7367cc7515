-- The header of a record (docs/RULES.md, 'The record'): its bytes, what stands in it, and which code it gives by
-- itself.
use Rattle.std.specs.Prelude.{ℕ, ◌+◌, Bool, cond, not, ◌&&◌, List, [], ◌∷◌, ◌++◌, length, get_or, take, drop, ltb, eqb}
use Rattle.definitions.specs.Codes.{DONE, CUT, MARK, RKIND, RWIDTH, RINDEX, RCOUNT}
use Rattle.definitions.specs.Polynomials.{degree}
use Rattle.definitions.specs.Requests.{known_kind}
use Rattle.widths.specs.Numbers.{bytes_of, number, widths, one_of}

-- mark C9 and the byte of a form; kind, 1 byte; width, 1 byte; n, 2 bytes; number of coefficients, 4 bytes
unfoldable pub header_of : ℕ → ℕ → ℕ → ℕ → ℕ → List ℕ
header_of mark kind w n count = 0xC9 ∷ mark ∷ kind ∷ w ∷ bytes_of 2 n ++ bytes_of 4 count

unfoldable pub marked : ℕ → List ℕ → Bool
marked mark bytes = eqb (get_or bytes 0 0) 0xC9 && eqb (get_or bytes 1 0) mark

-- A field: the code where it is wrong, its first byte, its length, and what is right in it, d being the degree of the
-- kind at the index that stand in the header.
pub record Field : Type 0 where
  pub code : ℕ
  pub first : ℕ
  pub long : ℕ
  pub right : (d v : ℕ) → Bool

abbrev pub kind_field : Field
kind_field = record { code = RKIND; first = 2; long = 1; right = λ d v. known_kind v }

abbrev pub width_field : Field
width_field = record { code = RWIDTH; first = 3; long = 1; right = λ d v. one_of widths v }

abbrev pub index_field : Field
index_field = record { code = RINDEX; first = 4; long = 2; right = λ d v. not (eqb v 0) }

abbrev pub count_field : Field
count_field = record { code = RCOUNT; first = 6; long = 4; right = λ d v. eqb v (d + 1) }

-- in the order in which they are tested
abbrev pub fields : List Field
fields = kind_field ∷ width_field ∷ index_field ∷ count_field ∷ []

-- what stands in a field
abbrev pub in_field : Field → List ℕ → ℕ
in_field f bytes = number (take f.long (drop f.first bytes))

abbrev pub kind_in : List ℕ → ℕ
kind_in = in_field kind_field

abbrev pub width_in : List ℕ → ℕ
width_in = in_field width_field

abbrev pub index_in : List ℕ → ℕ
index_in = in_field index_field

abbrev pub count_in : List ℕ → ℕ
count_in = in_field count_field

unfoldable pub degree_in : List ℕ → ℕ
degree_in bytes = degree (kind_in bytes) (index_in bytes)

-- the code of the first field that is wrong
unfoldable pub field_code : List Field → List ℕ → ℕ
field_code [] bytes = DONE
field_code (f ∷ fs) bytes = cond (f.right (degree_in bytes) (in_field f bytes)) (field_code fs bytes) f.code

unfoldable pub header_code : ℕ → List ℕ → ℕ
header_code mark bytes =
    cond (ltb (length bytes) 10) CUT (cond (not (marked mark bytes)) MARK (field_code fields bytes))

-- the byte at which the field of a code starts, 0 for every other code
unfoldable pub byte_of : List Field → ℕ → ℕ
byte_of [] code = 0
byte_of (f ∷ fs) code = cond (eqb code f.code) f.first (byte_of fs code)

-- The stored record (docs/RULES.md, 'The record' and 'The half record'), in both its forms: its bytes, what the writer
-- answers and leaves, and what the reader answers on any bytes at all and leaves. The form Whole has every coefficient,
-- and Half the first half of them. They differ in the mark and in how many are stored; all else is said once.
use Rattle.std.specs.Prelude.{ℕ, ◌+◌, ◌*◌, Bool, false, cond, not, ◌||◌, List, ◌++◌, length, drop, ℤ, ltb, eqb}
use Rattle.definitions.specs.Answer.{height_of}
use Rattle.definitions.specs.Polynomials.{degree}
use Rattle.definitions.specs.Requests.{known_kind, good_index}
use Rattle.definitions.specs.Steps.{largest}
use Rattle.definitions.specs.Codes.{DONE, KIND, INDEX, SHORT, OVER, CUT, WIDTH, RCOUNT, UNEVEN}
use Rattle.definitions.specs.Halves.{half_of, first_half, negates, rebuilt, uneven, middle_wrong}
use Rattle.widths.specs.Numbers.{body, coefficients_at, width}
use Rattle.record.specs.Header.{header_of, fields, kind_in, width_in, index_in, count_in, degree_in, header_code, byte_of}
use Rattle.forms.specs.declared.Form.{Form}
use Rattle.forms.specs.declared.Form.TheVariants.{Whole, Half}
use Rattle.forms.specs.declared.Written.{Written}
use Rattle.forms.specs.declared.Record.{Record}

-- the second byte of the mark: C9 50, C9 51
abbrev pub mark : Form → ℕ
mark Whole = 0x50
mark Half = 0x51

-- how many of so many coefficients are stored, and which: all, or the first half
abbrev pub stored : Form → ℕ → ℕ
stored Whole count = count
stored Half count = half_of count

abbrev pub part : Form → List ℤ → List ℤ
part Whole cs = cs
part Half cs = first_half cs

-- the header, then each of these in w bytes; and how many bytes that are
unfoldable pub record_of : Form → ℕ → ℕ → List ℤ → List ℕ
record_of form kind n cs = header_of (mark form) kind (width cs) n (length cs) ++ body (width cs) (part form cs)

unfoldable pub size : Form → List ℤ → ℕ
size form cs = 10 + stored form (length cs) * width cs

-- Writing. The half form takes only coefficients whose halves match.
abbrev pub uneven_for : Form → ℕ → ℕ → List ℤ → Bool
uneven_for Whole kind n cs = false
uneven_for Half kind n cs = uneven (negates kind n) cs

-- `room` is the number of bytes lent
unfoldable pub write_code : Form → ℕ → ℕ → List ℤ → ℕ → ℕ
write_code form kind n cs room =
    cond (not (known_kind kind)) KIND
    (cond (not (good_index n)) INDEX
    (cond (not (eqb (length cs) (degree kind n + 1))) RCOUNT
    (cond (ltb largest (height_of cs)) OVER
    (cond (uneven_for form kind n cs) UNEVEN
    (cond (ltb room (size form cs)) SHORT DONE)))))

-- the true degree is told on code 0, OVER and SHORT; the bytes used are 0 on refusal; the byte is that of a wrong field
unfoldable pub write_tells : Form → ℕ → ℕ → List ℤ → ℕ → Written
write_tells form kind n cs code =
    record {
      code = code;
      degree = cond (eqb code DONE || eqb code OVER || eqb code SHORT) (degree kind n) 0;
      used = cond (eqb code DONE) (size form cs) 0;
      byte = byte_of fields code;
    }

unfoldable pub write_answer : Form → ℕ → ℕ → List ℤ → ℕ → Written
write_answer form kind n cs room = write_tells form kind n cs (write_code form kind n cs room)

-- bytes past the record are untouched, and all of them on refusal
unfoldable pub write_leaves : Form → ℕ → ℕ → List ℤ → List ℕ → List ℕ
write_leaves form kind n cs bytes =
    cond (eqb (write_code form kind n cs (length bytes)) DONE)
    (record_of form kind n cs ++ drop (size form cs) bytes) bytes

-- Reading. The coefficients that are stored, all of them, and the bytes:
unfoldable pub stored_in : Form → List ℕ → List ℤ
stored_in form bytes = coefficients_at (width_in bytes) (stored form (count_in bytes)) (drop 10 bytes)

unfoldable pub coefficients_in : Form → List ℕ → List ℤ
coefficients_in Whole bytes = stored_in Whole bytes
coefficients_in Half bytes = rebuilt (negates (kind_in bytes) (index_in bytes)) (count_in bytes) (stored_in Half bytes)

unfoldable pub size_in : Form → List ℕ → ℕ
size_in form bytes = 10 + stored form (count_in bytes) * width_in bytes

-- in a half record: a nonzero middle under negation
abbrev pub uneven_in : Form → List ℕ → Bool
uneven_in Whole bytes = false
uneven_in Half bytes = middle_wrong (negates (kind_in bytes) (index_in bytes)) (count_in bytes) (stored_in Half bytes)

-- `room` is the number of entries lent
unfoldable pub read_code : Form → List ℕ → ℕ → ℕ
read_code form bytes room =
    cond (not (eqb (header_code (mark form) bytes) DONE)) (header_code (mark form) bytes)
    (cond (ltb (length bytes) (size_in form bytes)) CUT
    (cond (ltb room (count_in bytes)) SHORT
    (cond (not (eqb (width (stored_in form bytes)) (width_in bytes))) WIDTH
    (cond (uneven_in form bytes) UNEVEN DONE))))

-- the look by itself, for a walk over records: the code where the room suffices
unfoldable pub look_code : Form → List ℕ → ℕ
look_code form bytes = read_code form bytes (count_in bytes)

-- the true degree is told on code 0 and SHORT; bytes used, kind and n are 0 on refusal; the byte is that of a wrong
-- field
unfoldable pub read_tells : Form → List ℕ → ℕ → Record
read_tells form bytes code =
    record {
      code = code;
      degree = cond (eqb code DONE || eqb code SHORT) (degree_in bytes) 0;
      used = cond (eqb code DONE) (size_in form bytes) 0;
      kind = cond (eqb code DONE) (kind_in bytes) 0;
      n = cond (eqb code DONE) (index_in bytes) 0;
      byte = byte_of fields code;
    }

unfoldable pub read_answer : Form → List ℕ → ℕ → Record
read_answer form bytes room = read_tells form bytes (read_code form bytes room)

-- entries past the polynomial are untouched, and all of them on refusal
unfoldable pub read_leaves : Form → List ℕ → List ℤ → List ℤ
read_leaves form bytes coeffs =
    cond (eqb (read_code form bytes (length coeffs)) DONE)
    (coefficients_in form bytes ++ drop (count_in bytes) coeffs) coeffs

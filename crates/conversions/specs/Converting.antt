-- Converting a record (docs/RULES.md, 'The half record'): from the form that it has, whole or half, to the other one.
use Rattle.std.specs.Prelude.{ℕ, cond, not, ◌||◌, List, ◌++◌, length, drop, ltb, eqb}
use Rattle.definitions.specs.Codes.{DONE, SHORT, UNEVEN}
use Rattle.record.specs.Header.{fields, kind_in, index_in, degree_in, byte_of}
use Rattle.forms.specs.declared.Form.{Form}
use Rattle.forms.specs.declared.Form.TheVariants.{Whole, Half}
use Rattle.forms.specs.Format.{record_of, size, uneven_for, coefficients_in, size_in, look_code}
use Rattle.conversions.specs.declared.Converted.{Converted}

abbrev pub other : Form → Form
other Whole = Half
other Half = Whole

-- the reader's refusals, that of room left out; for a half record UNEVEN is among them. Then, to the half form, UNEVEN
-- where the halves don't match; and last the room, the number of bytes lent
unfoldable pub convert_code : Form → List ℕ → ℕ → ℕ
convert_code from bytes room =
    cond (not (eqb (look_code from bytes) DONE)) (look_code from bytes)
    (cond (uneven_for (other from) (kind_in bytes) (index_in bytes) (coefficients_in from bytes)) UNEVEN
    (cond (ltb room (size (other from) (coefficients_in from bytes))) SHORT DONE))

-- the true degree is told on code 0 and SHORT; the bytes read and written are 0 on refusal; the byte is that of a wrong
-- field
unfoldable pub convert_tells : Form → List ℕ → ℕ → Converted
convert_tells from bytes code =
    record {
      code = code;
      degree = cond (eqb code DONE || eqb code SHORT) (degree_in bytes) 0;
      read = cond (eqb code DONE) (size_in from bytes) 0;
      written = cond (eqb code DONE) (size (other from) (coefficients_in from bytes)) 0;
      byte = byte_of fields code;
    }

unfoldable pub convert_answer : Form → List ℕ → ℕ → Converted
convert_answer from bytes room = convert_tells from bytes (convert_code from bytes room)

-- the record of the same coefficients in the other form; bytes past it are untouched, and all of them on refusal
unfoldable pub convert_leaves : Form → List ℕ → List ℕ → List ℕ
convert_leaves from bytes out =
    cond (eqb (convert_code from bytes (length out)) DONE)
    (record_of (other from) (kind_in bytes) (index_in bytes) (coefficients_in from bytes)
    ++ drop (size (other from) (coefficients_in from bytes)) out)
    out

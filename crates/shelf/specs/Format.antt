-- The shelf record in its form Whole (docs/RULES.md, 'The record'): what `forms/Format` says of both, of this one.
use Rattle.std.specs.Prelude.{ℕ, List, ℤ}
use Rattle.forms.specs.Format as Forms
use Rattle.forms.specs.declared.Form.TheVariants.{Whole}
use Rattle.forms.specs.declared.Written.{Written}
use Rattle.forms.specs.declared.Record.{Record}

abbrev pub whole_mark : ℕ
whole_mark = Forms.mark Whole

-- what the writer answers and leaves
abbrev pub write_answer : ℕ → ℕ → List ℤ → ℕ → Written
write_answer = Forms.write_answer Whole

abbrev pub write_leaves : ℕ → ℕ → List ℤ → List ℕ → List ℕ
write_leaves = Forms.write_leaves Whole

-- the bytes of a record, and its code by every test but that of the room
abbrev pub size_in : List ℕ → ℕ
size_in = Forms.size_in Whole

abbrev pub look_code : List ℕ → ℕ
look_code = Forms.look_code Whole

-- what the reader answers and leaves
abbrev pub read_answer : List ℕ → ℕ → Record
read_answer = Forms.read_answer Whole

abbrev pub read_leaves : List ℕ → List ℤ → List ℤ
read_leaves = Forms.read_leaves Whole

-- The number of each refusal (docs/RULES.md, 'The codes'), and the code of what was refused or not.
use Rattle.std.specs.Prelude.{ℕ, Result, Ok, Err}
use Rattle.definitions.specs.Codes.{DONE, KIND, INDEX, LIMIT, SHORT, OVER, TALL, STEP, CUT, MARK, WIDTH, RKIND, RWIDTH, RINDEX, RCOUNT, LIST, ABSENT, UNEVEN, POINT, COARSE, RANGE, ROWS}
use Rattle.answers.specs.declared.Refusal.{Refusal}
use Rattle.answers.specs.declared.Refusal.TheVariants as R

abbrev pub number_of : Refusal → ℕ
number_of R.Kind = KIND
number_of R.Index = INDEX
number_of R.Limit = LIMIT
number_of R.Short = SHORT
number_of R.Over = OVER
number_of R.Tall = TALL
number_of R.Step = STEP
number_of R.Cut = CUT
number_of R.Mark = MARK
number_of R.Width = WIDTH
number_of R.RecordKind = RKIND
number_of R.RecordWidth = RWIDTH
number_of R.RecordIndex = RINDEX
number_of R.RecordCount = RCOUNT
number_of R.List = LIST
number_of R.Absent = ABSENT
number_of R.Uneven = UNEVEN
number_of R.Point = POINT
number_of R.Coarse = COARSE
number_of R.Range = RANGE
number_of R.Rows = ROWS

-- 0 where nothing was refused
abbrev pub code_of : {T : Type 0} → Result T Refusal → ℕ
code_of (Ok _) = DONE
code_of (Err refusal) = number_of refusal

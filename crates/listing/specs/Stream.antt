-- The listing piece by piece, over the line that is being read (`line_so_far`). What pieces of input come, and where
-- the output is cut, makes no difference (proofs/, `Whole`).
use Rattle.std.specs.Prelude.{ℕ, ◌+◌, ◌-◌, cond, ◌&&◌, List, [], ◌∷◌, ◌++◌, length, take, eqb, ltb, leb}
pub use Rattle.text.specs.Text.{NEWLINE}
use Rattle.line_so_far.specs.OpenLine.{KEPT, pushed, next_line}
use Rattle.line_so_far.specs.declared.Line.{Line}
use Rattle.answer_lines.specs.Printed.{wrong_line}
use Rattle.listing.specs.Reply.{MOST, reply}

-- what is printed for the line at its newline
unfoldable pub closing : Line → List ℕ
closing s = cond (leb s.length KEPT) (reply s.number (take s.length s.bytes)) (wrong_line s.number)

-- one byte more, and what it prints
unfoldable pub step : Line → ℕ → Line
step s b = cond (eqb b NEWLINE) (next_line s) (pushed s b)

unfoldable pub says : Line → ℕ → List ℕ
says s b = cond (eqb b NEWLINE) (closing s) []

-- what stands after some bytes of input, and what they print
unfoldable pub after : Line → List ℕ → Line
after s [] = s
after s (b ∷ bs) = after (step s b) bs

unfoldable pub printed : Line → List ℕ → List ℕ
printed s [] = []
printed s (b ∷ bs) = says s b ++ printed (step s b) bs

-- what the end of the input prints: a line only if it isn't empty
unfoldable pub ending : Line → List ℕ
ending s = cond (eqb s.length 0) [] (closing s)

-- how many bytes of input are taken where there is room for so many bytes of output: all before the first newline whose
-- line may not fit
unfoldable pub taken : ℕ → Line → List ℕ → ℕ
taken room s [] = 0
taken room s (b ∷ bs) =
    cond (eqb b NEWLINE && ltb room MOST) 0 (1 + taken (room - length (says s b)) (step s b) bs)

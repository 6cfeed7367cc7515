-- What is printed for an answer (docs/RULES.md, 'The listing'): the letter, n, code, degree, additions, height, peak,
-- gain, a colon, and on code 0 the coefficients, with one space between items; for any line that is not good, `?`, a
-- space and its number.
use Rattle.std.specs.Prelude.{ℕ, cond, List, [], ◌∷◌, ◌++◌, eqb, ℤ, pos}
use Rattle.definitions.specs.Codes.{DONE}
use Rattle.answers.specs.declared.Answer.{Answer}
use Rattle.text.specs.Text.{NEWLINE, SPACE, COLON, QUERY, spaced}

unfoldable pub letter_of : ℕ → ℕ
letter_of kind = cond (eqb kind 1) 70 73

unfoldable pub head_of : ℕ → ℕ → Answer → List ℕ
head_of kind n a =
    letter_of kind
    ∷ spaced
    (pos n ∷ pos a.code ∷ pos a.degree ∷ pos a.additions ∷ pos a.height ∷ pos a.peak ∷ a.gain ∷ [])
    ++ (SPACE ∷ COLON ∷ [])

-- after the colon: `cs` are the coefficients, printed on code 0 alone
unfoldable pub tail_of : Answer → List ℤ → List ℕ
tail_of a cs = spaced (cond (eqb a.code DONE) cs []) ++ (NEWLINE ∷ [])

unfoldable pub good_line : ℕ → ℕ → Answer → List ℤ → List ℕ
good_line kind n a cs = head_of kind n a ++ tail_of a cs

unfoldable pub wrong_line : ℕ → List ℕ
wrong_line number = QUERY ∷ spaced (pos number ∷ []) ++ (NEWLINE ∷ [])

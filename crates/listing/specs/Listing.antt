-- What is printed (docs/RULES.md, 'The listing'): `polynomials`, then for each line its reply; a line that is not good
-- is told by its number, counted from 1.
use Rattle.std.specs.Prelude.{ℕ, suc, cond, List, [], ◌∷◌, ◌++◌, eqb}
use Rattle.text.specs.Text.{NEWLINE}
use Rattle.line_so_far.specs.Heading.{heading}
use Rattle.listing.specs.Reply.{reply}

-- what the lines are: text after the last newline is a line only if it isn't empty. `current` is the line so far
unfoldable pub last_line : List ℕ → List (List ℕ)
last_line [] = []
last_line (b ∷ bs) = (b ∷ bs) ∷ []

unfoldable pub lines_from : List ℕ → List ℕ → List (List ℕ)
lines_from current [] = last_line current
lines_from current (b ∷ bs) =
    cond (eqb b NEWLINE) (current ∷ lines_from [] bs) (lines_from (current ++ (b ∷ [])) bs)

-- the replies to lines, the first of which has this number
unfoldable pub replies : ℕ → List (List ℕ) → List ℕ
replies number [] = []
replies number (line ∷ lines) = reply number line ++ replies (suc number) lines

unfoldable pub listing : List ℕ → List ℕ
listing input = heading ++ replies 1 (lines_from [] input)

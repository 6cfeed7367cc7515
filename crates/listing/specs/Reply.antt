-- What is printed for one line (docs/RULES.md, 'The listing'): that of its answer, or of a line that is not good.
use Rattle.std.specs.Prelude.{ℕ, Option, None, Some, List, pos}
use Rattle.definitions.specs.Steps.{largest}
use Rattle.definitions.specs.Answer.{coefficients}
use Rattle.answers.specs.Polynomial.{answer}
use Rattle.answer_lines.specs.Printed.{good_line, wrong_line}
use Rattle.request_lines.specs.Request.{read_line}
use Rattle.request_lines.specs.declared.Request.{Request}

-- the entries that are lent for each polynomial
abbrev pub LENT : ℕ
LENT = 4096

-- what is printed for the request that a line makes, under the largest working limit, and for a line, given its number
unfoldable pub reply_to : ℕ → Option Request → List ℕ
reply_to number None = wrong_line number
reply_to number (Some q) =
    good_line q.kind q.n (answer q.kind q.n (pos q.h) (pos largest) LENT) (coefficients q.kind q.n)

unfoldable pub reply : ℕ → List ℕ → List ℕ
reply number line = reply_to number (read_line line)

-- a line's bytes are never more: letter, six numbers of at most 21 bytes with their spaces, the gain and coefficients
-- of at most 22, colon, newline
abbrev pub MOST : ℕ
MOST = 90264

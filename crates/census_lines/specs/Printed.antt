-- What is printed for an input: the heading and the rows; for a refusal its code alone; for a first line that is not
-- good, `?`. Numbers are decimal without leading zeros, with one space between two, and each line ends in a newline.
use Rattle.std.specs.Prelude.{ℕ, Option, None, Some, cond, List, [], ◌∷◌, ◌++◌, eqb, pos}
use Rattle.definitions.specs.Codes.{DONE}
use Rattle.text.specs.Text.{NEWLINE, QUERY, decimal, spaced}
use Rattle.counting.specs.Census.{census, census_code}
use Rattle.census_lines.specs.Asked.{first_line, bounds_in}
use Rattle.census_lines.specs.declared.asked.Bounds.{Bounds}

-- what is lent: the numbers of 64 rows, and the working entries that a census uses
abbrev pub SLOTS : ℕ
SLOTS = 192

abbrev pub ENTRIES : ℕ
ENTRIES = 4096

-- what is printed has never more bytes: 50 for the heading, and 63 for each of 64 rows
abbrev pub MOST : ℕ
MOST = 4096

-- the end of a line: two numbers, a space before each, and the newline
unfoldable pub two_more : (x y : ℕ) → List ℕ
two_more x y = spaced (pos x ∷ pos y ∷ []) ++ (NEWLINE ∷ [])

-- `heights`
unfoldable pub word : List ℕ
word = 104 ∷ 101 ∷ 105 ∷ 103 ∷ 104 ∷ 116 ∷ 115 ∷ []

unfoldable pub heading_of : (a b : ℕ) → List ℕ
heading_of a b = word ++ two_more a b

-- a height, the smallest index with it and how many indices have it
unfoldable pub row_line : (height smallest count : ℕ) → List ℕ
row_line height smallest count = decimal height ++ two_more smallest count

-- a line for each three numbers
unfoldable pub row_lines : List ℕ → List ℕ
row_lines [] = []
row_lines (h ∷ []) = []
row_lines (h ∷ n ∷ []) = []
row_lines (h ∷ n ∷ k ∷ rows) = row_line h n k ++ row_lines rows

unfoldable pub refusal : ℕ → List ℕ
refusal code = decimal code ++ (NEWLINE ∷ [])

unfoldable pub wrong : List ℕ
wrong = QUERY ∷ NEWLINE ∷ []

unfoldable pub table : (a b : ℕ) → List ℕ
table a b = heading_of a b ++ row_lines (census a b)

-- what is printed under a code, for two bounds, and for what a line asks
unfoldable pub told : (a b code : ℕ) → List ℕ
told a b code = cond (eqb code DONE) (table a b) (refusal code)

unfoldable pub reply : (a b : ℕ) → List ℕ
reply a b = told a b (census_code a b SLOTS ENTRIES)

unfoldable pub reply_to : Option Bounds → List ℕ
reply_to None = wrong
reply_to (Some asked) = reply asked.a asked.b

unfoldable pub printed : List ℕ → List ℕ
printed input = reply_to (bounds_in (first_line input))

-- The codes (docs/RULES.md, 'The codes'); 0 is no refusal. 10 stood for any wrong field of a record and is not used
-- again.
use Rattle.std.specs.Prelude.{ℕ}

abbrev pub DONE : ℕ
DONE = 0

abbrev pub KIND : ℕ
KIND = 1

abbrev pub INDEX : ℕ
INDEX = 2

abbrev pub LIMIT : ℕ
LIMIT = 3

abbrev pub SHORT : ℕ
SHORT = 4

abbrev pub OVER : ℕ
OVER = 5

abbrev pub TALL : ℕ
TALL = 6

abbrev pub STEP : ℕ
STEP = 7

abbrev pub CUT : ℕ
CUT = 8

abbrev pub MARK : ℕ
MARK = 9

abbrev pub WIDTH : ℕ
WIDTH = 11

abbrev pub RKIND : ℕ
RKIND = 12

abbrev pub RWIDTH : ℕ
RWIDTH = 13

abbrev pub RINDEX : ℕ
RINDEX = 14

abbrev pub RCOUNT : ℕ
RCOUNT = 15

abbrev pub LIST : ℕ
LIST = 16

abbrev pub ABSENT : ℕ
ABSENT = 17

abbrev pub UNEVEN : ℕ
UNEVEN = 18

abbrev pub POINT : ℕ
POINT = 19

abbrev pub COARSE : ℕ
COARSE = 20

abbrev pub RANGE : ℕ
RANGE = 21

abbrev pub ROWS : ℕ
ROWS = 22

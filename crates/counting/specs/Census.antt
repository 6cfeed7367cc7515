-- The census of heights (docs/RULES.md, 'The census of heights'): for each height that occurs among F(a) to F(b) a row,
-- and what is answered and left.
use Rattle.std.specs.Prelude.{ℕ, zero, suc, ◌+◌, ◌-◌, ◌/◌, max, Bool, cond, not, ◌&&◌, ◌||◌, List, [], ◌∷◌, ◌++◌, length, drop, eqb, ltb, leb, ℤ}
use Rattle.definitions.specs.Codes.{DONE, SHORT, RANGE, ROWS}
use Rattle.definitions.specs.Requests.{written, zeros}
use Rattle.definitions.specs.Answer.{height, additions_for}
use Rattle.counting.specs.declared.Counted.{Counted}

-- so many indices, from a on
unfoldable pub indices : (a count : ℕ) → List ℕ
indices a zero = []
indices a (suc count) = a ∷ indices (suc a) count

-- those from a to b
unfoldable pub from_to : (a b : ℕ) → List ℕ
from_to a b = indices a (suc b - a)

-- those among some whose F has the height h
unfoldable pub with_height : ℕ → List ℕ → List ℕ
with_height h [] = []
with_height h (n ∷ ns) = cond (eqb (height 1 n) h) (n ∷ with_height h ns) (with_height h ns)

-- the largest height of some
unfoldable pub tallest : List ℕ → ℕ
tallest [] = 0
tallest (n ∷ ns) = max (height 1 n) (tallest ns)

-- the row of a height, by the indices that have it, ascending: the height, the smallest index and how many. A height
-- that doesn't occur has none
unfoldable pub row_of : ℕ → List ℕ → List ℕ
row_of h [] = []
row_of h (n ∷ ns) = h ∷ n ∷ length (n ∷ ns) ∷ []

-- the rows of all heights below h, ascending
unfoldable pub rows_below : ℕ → List ℕ → List ℕ
rows_below zero ns = []
rows_below (suc h) ns = rows_below h ns ++ row_of h (with_height h ns)

-- the rows of all heights, three numbers each
unfoldable pub rows_of : List ℕ → List ℕ
rows_of ns = rows_below (suc (tallest ns)) ns

unfoldable pub census : (a b : ℕ) → List ℕ
census a b = rows_of (from_to a b)

-- the additions of all of them together
unfoldable pub all_additions : List ℕ → ℕ
all_additions [] = 0
all_additions (n ∷ ns) = additions_for 1 n + all_additions ns

-- 1 <= a <= b <= 4,095
unfoldable pub good_range : (a b : ℕ) → Bool
good_range a b = leb 1 a && (leb a b && leb b 4095)

-- the refusals in their order, where `slots` numbers for rows and `entries` working entries are lent
unfoldable pub census_code : (a b slots entries : ℕ) → ℕ
census_code a b slots entries =
    cond (not (good_range a b)) RANGE
    (cond (ltb entries 4096) SHORT
    (cond (ltb slots (length (census a b))) ROWS DONE))

-- the answer for a code: the rows written and all additions are 0 on every refusal
unfoldable pub answered : (a b code : ℕ) → Counted
answered a b code =
    record {
      code = code;
      rows = cond (eqb code DONE) (length (census a b) / 3) 0;
      additions = cond (eqb code DONE) (all_additions (from_to a b)) 0;
    }

unfoldable pub answer : (a b slots entries : ℕ) → Counted
answer a b slots entries = answered a b (census_code a b slots entries)

-- the lent numbers: the rows on code 0, and else untouched, as is what lies past them
unfoldable pub leaves : (a b : ℕ) → List ℕ → (entries : ℕ) → List ℕ
leaves a b rows entries =
    cond (eqb (census_code a b (length rows) entries) DONE) (census a b ++ drop (length (census a b)) rows) rows

-- the working entries: the first 4,096 are 0 on code 0 and after ROWS, and else untouched, as is what lies past them
unfoldable pub cleared_by : ℕ → List ℤ → List ℤ
cleared_by code work = cond (eqb code DONE || eqb code ROWS) (written (zeros 4096) work) work

unfoldable pub clears : (a b slots : ℕ) → List ℤ → List ℤ
clears a b slots work = cleared_by (census_code a b slots (length work)) work

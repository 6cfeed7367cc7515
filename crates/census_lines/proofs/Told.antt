-- What a census answers, and leaves in the numbers that are lent to it, is what is printed for its bounds; and those
-- are read from the first line.
use mathlib.Core.Path.{◌≡◌, refl, sym, ◌∙◌, ap, ap₂}
use mathlib.Core.Bool.{not}
use mathlib.Core.List.{List, ◌++◌}
use Prim.Native.Nat.{ℕ, suc, ◌*◌, ◌/◌, ◌≤◌}
use native.Mathlib.Omega.{arith}
use borrow.Author.Tests.{ne_eqb, ltb-false}
use lib.ListN.{length, take}
use lib.Seq.{take_at}
use lib.Dec.{ltb}
use Rattle.std.specs.Prelude.{None, Some}
use Rattle.definitions.specs.Codes.{DONE, SHORT, RANGE, ROWS}
use Rattle.step_laws.specs.Tests.{past}
use Rattle.counting.specs.declared.Counted.{Counted}
use Rattle.counting.specs.Census.{census, good_range, census_code, answered, answer, leaves}
use Rattle.counting.specs.Rows.{Ascending, end, row, ascending}
use Rattle.census_lines.specs.Asked.{first_line, bounds_in}
use Rattle.census_lines.specs.Printed.{SLOTS, ENTRIES, heading_of, row_lines, refusal, wrong, table, told, reply}
use Rattle.census_lines.specs.Printed.{reply_to, printed}
use Rattle.census_lines.specs.declared.asked.Bounds.{Bounds}

-- a row has three numbers
by_threes : {high low : ℕ} {rows : List ℕ} → Ascending high low rows → 3 * (length rows / 3) ≡ length rows
by_threes end = refl
by_threes (row {rest = rest} _ _ more) = three_more (length rest) (by_threes more)
  where
    three_more : (n : ℕ) → 3 * (n / 3) ≡ n → 3 * (suc (suc (suc n)) / 3) ≡ suc (suc (suc n))
    three_more n e = omega arith

module _ (a b : ℕ) where
  done_fits : (slots entries : ℕ) → census_code a b slots entries ≡ DONE → length (census a b) ≤ slots
  unfolding census_code
  done_fits slots entries e =
      let good = (past (not (good_range a b)) RANGE refl e).1 in
      let long = (past (ltb entries 4096) SHORT refl good).1 in
      ltb-false slots (length (census a b)) (past (ltb slots (length (census a b))) ROWS {x = DONE} refl long).0

  module _ (rows : List ℕ) (entries : ℕ) (r : Counted) (slots-are : length rows ≡ SLOTS)
      (entries_are : entries ≡ ENTRIES) (er : r ≡ answer a b (length rows) entries) where
    code_as : r.code ≡ census_code a b (length rows) entries
    unfolding answer answered
    code_as = ap (λ (x : Counted). x.code) er

    code_is : r.code ≡ census_code a b SLOTS ENTRIES
    code_is = code_as ∙ ap₂ (census_code a b) slots-are entries_are

    pub refused : (r.code ≡ DONE → ⊥) → refusal r.code ≡ reply a b
    unfolding reply told
    refused h = rw (← code_is, ne_eqb r.code DONE h)

    module _ (done : r.code ≡ DONE) where
      by_rows : 3 * r.rows ≡ length (census a b)
      unfolding answer answered
      by_rows = ap (λ (x : Counted). 3 * x.rows) er ∙ rw (← code_as, done) (by_threes (ascending a b))

      pub few : r.rows ≤ 64
      few = omega (arith, by_rows, done_fits SLOTS ENTRIES (sym code_is ∙ done))

      pub delivered : (left : List ℕ) → left ≡ leaves a b rows entries
          → heading_of a b ++ row_lines (take (3 * r.rows) left) ≡ reply a b
      unfolding reply told table leaves
      delivered left e =
          let all : take (3 * r.rows) left ≡ census a b =
          ap (take (3 * r.rows)) (rw (← code_as, done) at e) ∙ take_at (census a b) _ (3 * r.rows) (sym by_rows) in
          rw (← code_is, done, all) refl

-- the reply to the bounds in the first line
module _ (input : List ℕ) where
  pub replied : (asked : Bounds) → Some asked ≡ bounds_in (first_line input) → reply asked.a asked.b ≡ printed input
  unfolding printed reply_to
  replied asked e = rw (← e)

  pub replied_wrong : None ≡ bounds_in (first_line input) → wrong ≡ printed input
  unfolding printed reply_to
  replied_wrong e = rw (← e)

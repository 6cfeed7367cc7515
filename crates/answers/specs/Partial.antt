-- The partial request (docs/RULES.md, 'The kept half and the partial request'): kind, index n, a number j of divisors,
-- a working limit w, and a buffer of so many entries.
use Rattle.std.specs.Prelude.{ℕ, ◌+◌, ◌-◌, cond, not, ◌||◌, List, length, eqb, ltb, leb, ℤ, nat_abs}
use Rattle.definitions.specs.Codes.{DONE, KIND, INDEX, LIMIT, SHORT, OVER, STEP}
use Rattle.definitions.specs.Numbers.{r_of}
use Rattle.definitions.specs.Steps.{below_one}
use Rattle.definitions.specs.KeptHalf.{half_degree, kept_half, additions_after}
use Rattle.definitions.specs.Requests.{known_kind, good_index, divisors_due, over_among, written, zeros}
use Rattle.answers.specs.declared.Stop.{Stop}

-- the refusals in their order: KIND, INDEX (also where r is 1), STEP, LIMIT, SHORT, OVER
unfoldable pub code : ℕ → ℕ → ℕ → ℤ → ℕ → ℕ
code kind n j w room =
    cond (not (known_kind kind)) KIND
    (cond (not (good_index n) || eqb (r_of n) 1) INDEX
    (cond (ltb (divisors_due (r_of n)) j) STEP
    (cond (below_one w) LIMIT
    (cond (leb room (half_degree kind (r_of n))) SHORT
    (cond (over_among (nat_abs w) kind (r_of n) j) OVER DONE)))))

-- SHORT and OVER tell D; additions and divisors due are 0 on every refusal
unfoldable pub answered : ℕ → ℕ → ℕ → ℕ → Stop
answered kind n j code =
    record {
      code = code;
      degree = cond (eqb code DONE || eqb code SHORT || eqb code OVER) (half_degree kind (r_of n)) 0;
      additions = cond (eqb code DONE) (additions_after kind (r_of n) j) 0;
      due = cond (eqb code DONE) (divisors_due (r_of n) - j) 0;
    }

unfoldable pub answer : ℕ → ℕ → ℕ → ℤ → ℕ → Stop
answer kind n j w room = answered kind n j (code kind n j w room)

-- entries 0 to D: the kept half after j divisors on code 0, zeros on OVER; later entries are untouched
unfoldable pub left : ℕ → ℕ → ℕ → ℕ → List ℤ → List ℤ
left kind n j code l =
    cond (eqb code DONE) (written (kept_half kind (r_of n) j) l)
    (cond (eqb code OVER) (written (zeros (half_degree kind (r_of n) + 1)) l) l)

unfoldable pub leaves : ℕ → ℕ → ℕ → ℤ → List ℤ → List ℤ
leaves kind n j w l = left kind n j (code kind n j w (length l)) l

-- The polynomial request (docs/RULES.md, 'The polynomial request'): kind, index n, height limit h, working
-- limit w, and a buffer of so many entries.
use Rattle.std.specs.Prelude.{ℕ, suc, cond, not, ◌||◌, List, length, eqb, leb, ℤ, pos, nat_abs}
use Rattle.std.specs.Int.Signed.{lt_z}
use Rattle.definitions.specs.Integers.{0ℤ}
use Rattle.definitions.specs.Codes.{DONE, KIND, INDEX, LIMIT, SHORT, OVER, TALL}
use Rattle.definitions.specs.Numbers.{r_of}
use Rattle.definitions.specs.Polynomials.{degree}
use Rattle.definitions.specs.Steps.{below_one}
use Rattle.definitions.specs.Requests.{known_kind, good_index, divisors_due, over_among, written, zeros}
use Rattle.definitions.specs.Answer.{coefficients, height, peak, gain, additions_for}
use Rattle.answers.specs.declared.Answer.{Answer}

-- the refusals in their order, 1 to 6; of the limits h is tested first, then w
unfoldable pub code : ℕ → ℕ → ℤ → ℤ → ℕ → ℕ
code kind n h w room =
    cond (not (known_kind kind)) KIND
    (cond (not (good_index n)) INDEX
    (cond (below_one h || below_one w) LIMIT
    (cond (leb room (degree kind n)) SHORT
    (cond (over_among (nat_abs w) kind (r_of n) (divisors_due (r_of n))) OVER
    (cond (lt_z h (pos (height kind n))) TALL DONE)))))

-- the answer for a code: the true degree on code 0, SHORT, OVER and TALL, and the rest on code 0 alone
unfoldable pub answered : ℕ → ℕ → ℕ → Answer
answered kind n code =
    record {
      code = code;
      degree = cond (eqb code DONE || eqb code SHORT || eqb code OVER || eqb code TALL) (degree kind n) 0;
      additions = cond (eqb code DONE) (additions_for kind n) 0;
      height = cond (eqb code DONE) (height kind n) 0;
      peak = cond (eqb code DONE) (peak kind n) 0;
      gain = cond (eqb code DONE) (gain kind n) 0ℤ;
    }

unfoldable pub answer : ℕ → ℕ → ℤ → ℤ → ℕ → Answer
answer kind n h w room = answered kind n (code kind n h w room)

-- what stands in the buffer: the polynomial on code 0, zeros in its place on OVER and TALL
unfoldable pub left : ℕ → ℕ → ℕ → List ℤ → List ℤ
left kind n code l =
    cond (eqb code DONE) (written (coefficients kind n) l)
    (cond (eqb code OVER || eqb code TALL) (written (zeros (suc (degree kind n))) l) l)

unfoldable pub leaves : ℕ → ℕ → ℤ → ℤ → List ℤ → List ℤ
leaves kind n h w l = left kind n (code kind n h w (length l)) l

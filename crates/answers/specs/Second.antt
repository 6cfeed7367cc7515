-- The request of the second engine (docs/RULES.md, 'The second engine'): kind, index n, height limit h, a buffer of so
-- many entries, and a scratch buffer of so many.
use Rattle.std.specs.Prelude.{ℕ, suc, ◌+◌, ◌*◌, cond, not, ◌||◌, List, length, eqb, ltb, leb, ℤ, pos}
use Rattle.std.specs.Int.Signed.{lt_z}
use Rattle.definitions.specs.Integers.{0ℤ}
use Rattle.definitions.specs.Codes.{DONE, KIND, INDEX, LIMIT, SHORT, OVER, TALL}
use Rattle.definitions.specs.Polynomials.{degree}
use Rattle.definitions.specs.Steps.{below_one}
use Rattle.definitions.specs.Requests.{known_kind, good_index, written, zeros}
use Rattle.definitions.specs.Answer.{coefficients, height, peak, gain}
use Rattle.definitions.specs.Second.{second_over}
use Rattle.answers.specs.declared.Answer.{Answer}

-- the refusals in their order, 1 to 6
unfoldable pub code : ℕ → ℕ → ℤ → ℕ → ℕ → ℕ
code kind n h room scratch =
    cond (not (known_kind kind)) KIND
    (cond (not (good_index n)) INDEX
    (cond (below_one h) LIMIT
    (cond (leb room (degree kind n) || ltb scratch (2 * n + 16)) SHORT
    (cond (second_over kind n) OVER
    (cond (lt_z h (pos (height kind n))) TALL DONE)))))

-- the answer for a code: the true degree on code 0, SHORT, OVER and TALL, and the rest on code 0 alone; additions are
-- 0
unfoldable pub answered : ℕ → ℕ → ℕ → Answer
answered kind n code =
    record {
      code = code;
      degree = cond (eqb code DONE || eqb code SHORT || eqb code OVER || eqb code TALL) (degree kind n) 0;
      additions = 0;
      height = cond (eqb code DONE) (height kind n) 0;
      peak = cond (eqb code DONE) (peak kind n) 0;
      gain = cond (eqb code DONE) (gain kind n) 0ℤ;
    }

unfoldable pub answer : ℕ → ℕ → ℤ → ℕ → ℕ → Answer
answer kind n h room scratch = answered kind n (code kind n h room scratch)

-- what stands in the first buffer: the polynomial on code 0, zeros in its place on OVER and TALL
unfoldable pub left : ℕ → ℕ → ℕ → List ℤ → List ℤ
left kind n code l =
    cond (eqb code DONE) (written (coefficients kind n) l)
    (cond (eqb code OVER || eqb code TALL) (written (zeros (suc (degree kind n))) l) l)

unfoldable pub leaves : ℕ → ℕ → ℤ → List ℤ → ℕ → List ℤ
leaves kind n h l scratch = left kind n (code kind n h (length l) scratch) l

-- and in the scratch: all zero after code 0, OVER and TALL
unfoldable pub scratched : ℕ → List ℤ → List ℤ
scratched code s = cond (eqb code DONE || eqb code OVER || eqb code TALL) (zeros (length s)) s

unfoldable pub scratches : ℕ → ℕ → ℤ → ℕ → List ℤ → List ℤ
scratches kind n h room s = scratched (code kind n h room (length s)) s

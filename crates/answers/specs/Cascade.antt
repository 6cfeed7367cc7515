-- The cascade request (docs/RULES.md, 'The cascade request'): a list of indices ns, a height limit h, a buffer of so
-- many entries, and a scratch buffer of so many.
use Rattle.std.specs.Prelude.{ℕ, suc, cond, not, ◌||◌, List, length, eqb, ltb, leb, ℤ, pos}
use Rattle.std.specs.Int.Signed.{lt_z}
use Rattle.definitions.specs.Integers.{0ℤ}
use Rattle.definitions.specs.Codes.{DONE, INDEX, LIMIT, SHORT, OVER, TALL, LIST}
use Rattle.definitions.specs.Steps.{below_one}
use Rattle.definitions.specs.Requests.{written, zeros}
use Rattle.definitions.specs.Answer.{height_of, peak_of, gain_of}
use Rattle.definitions.specs.Cascades.{total_degree, product_coefficients, longest, all_good, cascade_over}
use Rattle.answers.specs.declared.Answer.{Answer}

-- the refusals in their order: LIST (none or over 8), INDEX, LIST (total degree), LIMIT, SHORT, OVER, TALL
unfoldable pub code : List ℕ → ℤ → ℕ → ℕ → ℕ
code ns h room scratch =
    cond (eqb (length ns) 0 || ltb 8 (length ns)) LIST
    (cond (not (all_good ns)) INDEX
    (cond (ltb 65535 (total_degree ns)) LIST
    (cond (below_one h) LIMIT
    (cond (leb room (total_degree ns) || leb scratch (longest ns)) SHORT
    (cond (cascade_over ns) OVER
    (cond (lt_z h (pos (height_of (product_coefficients ns)))) TALL DONE))))))

-- the answer for a code: the total degree on code 0, SHORT, OVER and TALL, and the rest on code 0 alone; additions are
-- 0
unfoldable pub answered : List ℕ → ℕ → Answer
answered ns code =
    record {
      code = code;
      degree = cond (eqb code DONE || eqb code SHORT || eqb code OVER || eqb code TALL) (total_degree ns) 0;
      additions = 0;
      height = cond (eqb code DONE) (height_of (product_coefficients ns)) 0;
      peak = cond (eqb code DONE) (peak_of (product_coefficients ns)) 0;
      gain = cond (eqb code DONE) (gain_of (product_coefficients ns)) 0ℤ;
    }

unfoldable pub answer : List ℕ → ℤ → ℕ → ℕ → Answer
answer ns h room scratch = answered ns (code ns h room scratch)

-- what stands in the first buffer: the product on code 0, zeros in its place on OVER and TALL
unfoldable pub left : List ℕ → ℕ → List ℤ → List ℤ
left ns code l =
    cond (eqb code DONE) (written (product_coefficients ns) l)
    (cond (eqb code OVER || eqb code TALL) (written (zeros (suc (total_degree ns))) l) l)

unfoldable pub leaves : List ℕ → ℤ → List ℤ → ℕ → List ℤ
leaves ns h l scratch = left ns (code ns h (length l) scratch) l

-- and in the scratch: all zero after code 0, OVER and TALL
unfoldable pub scratched : ℕ → List ℤ → List ℤ
scratched code s = cond (eqb code DONE || eqb code OVER || eqb code TALL) (zeros (length s)) s

unfoldable pub scratches : List ℕ → ℤ → ℕ → List ℤ → List ℤ
scratches ns h room s = scratched (code ns h room (length s)) s

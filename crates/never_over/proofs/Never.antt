-- OVER is never met: no polynomial request and no partial request gives it, whatever the kind, the index, the height
-- limit, the number of divisors and the length of the buffer, under a working limit from `promised` on
-- (`polynomial-not-over`, `partial_not-over`); so none does under the largest (`polynomial_never_over`,
-- `partial_never_over`). Nor does a request of the second engine (`second_never_over`).
use Rattle.std.specs.Prelude.{ℕ, ◌+◌, ◌*◌, ◌≤◌, ◌≡◌, refl, Bool, true, false, cond, ◌||◌, ◌≢◌, leb, ℤ, pos, nat_abs}
use Rattle.std.proofs.Common.{sym, ◌∙◌, arith, ltb-false}
use Rattle.std.proofs.Math.Path.{ap}
use Rattle.std.proofs.Math.Bool.{not, not-not}
use Rattle.std.proofs.Math.Dec.{eqb, ltb}
use Rattle.std.specs.Int.Signed.{lt_z}
use Rattle.definitions.specs.Codes.{OVER}
use Rattle.definitions.specs.Numbers.{r_of, k_of}
use Rattle.definitions.specs.Polynomials.{degree}
use Rattle.definitions.specs.Steps.{largest, below_one}
use Rattle.definitions.specs.KeptHalf.{half_degree}
use Rattle.definitions.specs.Requests.{known_kind, good_index, divisors_due, over_among}
use Rattle.definitions.specs.Answer.{height}
use Rattle.step_laws.specs.Tests.{neither}
use Rattle.answers.specs.Polynomial as Polynomial
use Rattle.answers.specs.Partial as Partial
use Rattle.answers.specs.Second as Second
use Rattle.index.proofs.Laws.{index_good}
use Rattle.never_over.specs.Promised.{promised}
use Rattle.never_over.proofs.NotOver.{not-over, promised_fits}
use Rattle.never_over.proofs.Second.{second_never}

-- another code, whose test comes before
before : (b : Bool) (c : ℕ) {x : ℕ} → c ≢ OVER → (b ≡ false → x ≢ OVER) → cond b c x ≢ OVER
before true c u h = u
before false c u h = h refl

module _ (kind n : ℕ) (w : ℤ) (enough : promised (eqb kind 1) (k_of n) ≤ nat_abs w) where
  -- OVER itself, after the test of the index
  itself : not (good_index n) ≡ false → (j : ℕ) → j ≤ divisors_due (r_of n) → {x : ℕ} → x ≢ OVER
      → cond (over_among (nat_abs w) kind (r_of n) j) OVER x ≢ OVER
  itself g j l h =
      let index = index_good n (sym (not-not (good_index n)) ∙ ap not g) in
      rw (not-over kind n index.0 index.1 (nat_abs w) enough j l) h

  pub polynomial-not-over : (h : ℤ) (room : ℕ) → (Polynomial.answer kind n h w room).code ≢ OVER
  unfolding Polynomial.answer Polynomial.answered Polynomial.code
  polynomial-not-over h room =
      before (not (known_kind kind)) 1 (λ e. omega arith)
      (λ known. before (not (good_index n)) 2 (λ e. omega arith)
      (λ index. before (below_one h || below_one w) 3 (λ e. omega arith)
      (λ limits. before (leb room (degree kind n)) 4 (λ e. omega arith)
      (λ room. itself index (divisors_due (r_of n)) (omega arith)
      (before (lt_z h (pos (height kind n))) 6 (λ e. omega arith) (λ low e. omega arith))))))

  pub partial_not-over : (j room : ℕ) → (Partial.answer kind n j w room).code ≢ OVER
  unfolding Partial.answer Partial.answered Partial.code
  partial_not-over j room =
      before (not (known_kind kind)) 1 (λ e. omega arith)
      (λ known. before (not (good_index n) || eqb (r_of n) 1) 2 (λ e. omega arith)
      (λ index. before (ltb (divisors_due (r_of n)) j) 7 (λ e. omega arith)
      (λ few. before (below_one w) 3 (λ e. omega arith)
      (λ limit. before (leb room (half_degree kind (r_of n))) 4 (λ e. omega arith)
      (λ room. itself (neither (not (good_index n)) (eqb (r_of n) 1) index).0 j (ltb-false (divisors_due (r_of n)) j few)
      (λ e. omega arith))))))

module _ (kind n : ℕ) where
  pub polynomial_never_over : (h : ℤ) (room : ℕ) → (Polynomial.answer kind n h (pos largest) room).code ≢ OVER
  polynomial_never_over = polynomial-not-over kind n (pos largest) (promised_fits (eqb kind 1) (k_of n))

  pub partial_never_over : (j room : ℕ) → (Partial.answer kind n j (pos largest) room).code ≢ OVER
  partial_never_over = partial_not-over kind n (pos largest) (promised_fits (eqb kind 1) (k_of n))

  -- nor does the second engine, which takes no steps
  pub second_never_over : (h : ℤ) (room scratch : ℕ) → (Second.answer kind n h room scratch).code ≢ OVER
  unfolding Second.answer Second.answered Second.code
  second_never_over h room scratch =
      before (not (known_kind kind)) 1 (λ e. omega arith)
      (λ known. before (not (good_index n)) 2 (λ e. omega arith)
      (λ index. before (below_one h) 3 (λ e. omega arith)
      (λ limit. before (leb room (degree kind n) || ltb scratch (2 * n + 16)) 4 (λ e. omega arith)
      (λ room.
      let good = index_good n (sym (not-not (good_index n)) ∙ ap not index) in
      rw (second_never kind n good.0 good.1)
      (before (lt_z h (pos (height kind n))) 6 (λ e. omega arith) (λ low e. omega arith))))))

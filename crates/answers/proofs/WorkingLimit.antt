-- The working limit of a request. A request that is delivered under one working limit is delivered identically, answer
-- and buffer, under every larger one (`polynomial_delivered`, `partial_delivered`), for a step that stays within the
-- one stays within the other; and under the largest it is the request as it was without a working limit
-- (`polynomial_at_largest`, `partial_at_largest`): the same refusals in the same order, and OVER where a step passes
-- 2^63 - 1. The answer and the buffer follow from the code. A step's own are in crate `step_laws`.
use Prim.Native.Nat.{ℕ, zero, suc, ◌≤◌}
use mathlib.Core.Path.{◌≡◌, refl, ap}
use mathlib.Core.Bool.{true, false, cond, not, ◌||◌, or-false}
use mathlib.Core.List.{List}
use lib.ListN.{length}
use lib.Dec.{eqb, ltb, leb}
use lib.IntN.{ℤ, pos, nat_abs}
use lib.Signed.{le_z, lt_z}
use Rattle.definitions.specs.Codes.{DONE, KIND, INDEX, LIMIT, SHORT, OVER, TALL, STEP}
use Rattle.definitions.specs.Numbers.{r_of}
use Rattle.definitions.specs.Polynomials.{degree}
use Rattle.definitions.specs.Steps.{largest, below_one}
use Rattle.definitions.specs.KeptHalf.{half_degree}
use Rattle.definitions.specs.Requests.{known_kind, good_index, divisors_due, over_at, over_among}
use Rattle.definitions.specs.Answer.{height}
use Rattle.step_laws.specs.Tests.{past, neither}
use Rattle.step_laws.specs.WorkingLimit.{over_more, larger_good}
use Rattle.answers.specs.Polynomial as Polynomial
use Rattle.answers.specs.Partial as Partial

pub among_more : {w w' : ℕ} → w ≤ w' → (kind r j : ℕ) → over_among w kind r j ≡ false → over_among w' kind r j ≡ false
unfolding over_among over_at
among_more more kind r zero e = refl
among_more {w} more kind r (suc j) e =
    let b = neither (over_among w kind r j) (over_at w kind r j) e in
    rw (among_more more kind r j b.0, over_more more _ _ _ b.1) refl

-- ---- the polynomial request
module _ (kind n : ℕ) (h : ℤ) where
  -- what is delivered passed every test
  pub polynomial_done : (w : ℤ) (room : ℕ) → Polynomial.code kind n h w room ≡ DONE
      → (below_one h ≡ false) × (below_one w ≡ false)
      × (over_among (nat_abs w) kind (r_of n) (divisors_due (r_of n)) ≡ false)
  unfolding Polynomial.code
  polynomial_done w room e =
      let index = past (not (good_index n)) INDEX refl (past (not (known_kind kind)) KIND refl e).1 in
      let limit = past (below_one h || below_one w) LIMIT refl index.1 in
      let limits = neither (below_one h) (below_one w) limit.0 in
      let short = past (leb room (degree kind n)) SHORT refl limit.1 in
      let over = past (over_among (nat_abs w) kind (r_of n) (divisors_due (r_of n))) OVER refl short.1 in
      (limits.0, limits.1, over.0)

  polynomial-code : (w w' : ℤ) → le_z w w' ≡ true → (room : ℕ) → Polynomial.code kind n h w room ≡ DONE
      → Polynomial.code kind n h w' room ≡ Polynomial.code kind n h w room
  unfolding Polynomial.code
  polynomial-code w w' more room e =
      let p = polynomial_done w room e in
      let good = larger_good w w' more p.1 in
      rw (good.0, p.1, p.2, among_more good.1 kind (r_of n) (divisors_due (r_of n)) p.2) refl

  pub polynomial_delivered : (w w' : ℤ) → le_z w w' ≡ true → (l : List ℤ) → Polynomial.code kind n h w (length l) ≡ DONE
      → (Polynomial.answer kind n h w' (length l) ≡ Polynomial.answer kind n h w (length l))
      × (Polynomial.leaves kind n h w' l ≡ Polynomial.leaves kind n h w l)
  unfolding Polynomial.answer Polynomial.leaves
  polynomial_delivered w w' more l e =
      let c = polynomial-code w w' more (length l) e in
      (ap (Polynomial.answered kind n) c, ap (λ k. Polynomial.left kind n k l) c)

  pub polynomial_at_largest : (room : ℕ) → Polynomial.code kind n h (pos largest) room
      ≡ cond (not (known_kind kind)) KIND
      (cond (not (good_index n)) INDEX
      (cond (below_one h) LIMIT
      (cond (leb room (degree kind n)) SHORT
      (cond (over_among largest kind (r_of n) (divisors_due (r_of n))) OVER
      (cond (lt_z h (pos (height kind n))) TALL DONE)))))
  unfolding Polynomial.code below_one
  polynomial_at_largest room = rw (or-false (lt_z h (pos 1))) refl

-- ---- the partial request
module _ (kind n j : ℕ) where
  pub partial_done : (w : ℤ) (room : ℕ) → Partial.code kind n j w room ≡ DONE
      → (below_one w ≡ false) × (over_among (nat_abs w) kind (r_of n) j ≡ false)
  unfolding Partial.code
  partial_done w room e =
      let index = past (not (good_index n) || eqb (r_of n) 1) INDEX refl (past (not (known_kind kind)) KIND refl e).1 in
      let limit = past (below_one w) LIMIT refl (past (ltb (divisors_due (r_of n)) j) STEP refl index.1).1 in
      let short = past (leb room (half_degree kind (r_of n))) SHORT refl limit.1 in
      let over = past (over_among (nat_abs w) kind (r_of n) j) OVER refl short.1 in
      (limit.0, over.0)

  partial_code : (w w' : ℤ) → le_z w w' ≡ true → (room : ℕ) → Partial.code kind n j w room ≡ DONE
      → Partial.code kind n j w' room ≡ Partial.code kind n j w room
  unfolding Partial.code
  partial_code w w' more room e =
      let p = partial_done w room e in
      let good = larger_good w w' more p.0 in
      rw (good.0, p.0, p.1, among_more good.1 kind (r_of n) j p.1) refl

  pub partial_delivered : (w w' : ℤ) → le_z w w' ≡ true → (l : List ℤ) → Partial.code kind n j w (length l) ≡ DONE
      → (Partial.answer kind n j w' (length l) ≡ Partial.answer kind n j w (length l))
      × (Partial.leaves kind n j w' l ≡ Partial.leaves kind n j w l)
  unfolding Partial.answer Partial.leaves
  partial_delivered w w' more l e =
      let c = partial_code w w' more (length l) e in
      (ap (Partial.answered kind n j) c, ap (λ k. Partial.left kind n j k l) c)

  pub partial_at_largest : (room : ℕ) → Partial.code kind n j (pos largest) room
      ≡ cond (not (known_kind kind)) KIND
      (cond (not (good_index n) || eqb (r_of n) 1) INDEX
      (cond (ltb (divisors_due (r_of n)) j) STEP
      (cond (leb room (half_degree kind (r_of n))) SHORT
      (cond (over_among largest kind (r_of n) j) OVER DONE))))
  unfolding Partial.code below_one
  partial_at_largest room = refl

-- The working limit of a step. A step that is delivered under one working limit is delivered identically under every
-- larger one (`step_delivered`), for what is in range under the one is so under the other; and under the largest it is
-- the step as it was without a limit, within ±(2^63 - 1) (`step_at_largest`).
use Rattle.std.specs.Prelude.{◌≡◌, true, false, cond, ◌||◌, List, ℕ, ◌≤◌, eqb, ℤ, pos, negsuc, nat_abs}
use Rattle.std.proofs.Math.Path.{refl}
use Rattle.std.proofs.Common.{sym, ◌∙◌, ap, true≢false, arith, leb-true, le-ltb, ltb-false, SFits, to_z-of_z}
use Rattle.std.proofs.Math.Dec.{ltb}
use Rattle.std.specs.Int.Signed.{le_z}
use Rattle.std.specs.Int.{w64}
use Rattle.definitions.specs.Codes.{DONE, LIMIT, OVER, STEP}
use Rattle.definitions.specs.Steps.{Sort, in_range, step_over, largest, below_one, step_code, step_count, step_leaves}
use Rattle.step_laws.specs.Signed.{in_range_lem, range_in}
use Rattle.step_laws.specs.Machine.{seen}
use Rattle.step_laws.specs.Step.{not-over_each, not-over_all}
use Rattle.step_laws.specs.Tests.{past}

module _ {w w' : ℕ} (more : w ≤ w') where
  pub range_more : (v : ℤ) → in_range w v ≡ true → in_range w' v ≡ true
  range_more v e = in_range_lem w' v (omega (arith, range_in w v e))

  pub over_more : (s : Sort) (d : ℕ) (l : List ℤ) → step_over w s d l ≡ false → step_over w' s d l ≡ false
  over_more s d l o = not-over_all s d l w' (λ i from below. range_more _ (not-over_each s d l w o i from below))

-- a working limit that is not below 1 is its own magnitude
pub good_limit : (w : ℤ) → below_one w ≡ false → (w ≡ pos (nat_abs w)) × (1 ≤ nat_abs w)
unfolding below_one
good_limit (pos k) e = (refl, ltb-false k 1 e)
good_limit (negsuc k) e = absurd (true≢false e)

-- the largest is none
pub no_limit : below_one (pos largest) ≡ false
unfolding below_one
no_limit = refl

-- a limit that functions can hand on: not below 1, nor above the largest
abbrev pub Workable : ℕ → Type 0
Workable w = (1 ≤ w) × (w ≤ largest)

-- a good limit that was read is handed on as its magnitude
pub read_limit : (w : ℤ) → SFits w64 w → below_one w ≡ false → {m : ℕ} → m ≡ nat_abs (seen w)
    → (m ≡ nat_abs w) × (pos m ≡ w) × Workable m
read_limit w f g {m} e =
    let is : m ≡ nat_abs w = e ∙ ap nat_abs (to_z-of_z f) in
    let l = good_limit w g in
    (is, ap pos is ∙ sym l.0, (omega (arith, is, l.1), rw is (most w f g)))
  where
    most : (v : ℤ) → SFits w64 v → below_one v ≡ false → nat_abs v ≤ largest
    most v f g = omega (arith, rw (good_limit v g).0 at f.sfits)

-- and so is every larger one
pub larger_good : (w w' : ℤ) → le_z w w' ≡ true → below_one w ≡ false → (below_one w' ≡ false) × (nat_abs w ≤ nat_abs w')
unfolding below_one
larger_good (pos k) (pos m) more e = (le-ltb m 1 (omega (arith, leb-true k m more, ltb-false k 1 e)), leb-true k m more)
larger_good (pos k) (negsuc m) more e = absurd (true≢false (sym more))
larger_good (negsuc k) w' more e = absurd (true≢false e)

module _ (s : Sort) (d : ℕ) (l : List ℤ) where
  code_more : (w w' : ℤ) → le_z w w' ≡ true → step_code w s d l ≡ DONE → step_code w' s d l ≡ step_code w s d l
  unfolding step_code
  code_more w w' more e =
      let size = past (eqb d 0 || ltb 65535 d) STEP refl e in
      let limit = past (below_one w) LIMIT refl size.1 in
      let over = past (step_over (nat_abs w) s d l) OVER refl limit.1 in
      let good = larger_good w w' more limit.0 in
      rw (good.0, limit.0, over.0, over_more good.1 s d l over.0) refl

  pub step_delivered : (w w' : ℤ) → le_z w w' ≡ true → step_code w s d l ≡ DONE
      → (step_code w' s d l ≡ step_code w s d l) × (step_count w' s d l ≡ step_count w s d l)
      × (step_leaves w' s d l ≡ step_leaves w s d l)
  unfolding step_count step_leaves
  step_delivered w w' more e = let c = code_more w w' more e in (c, rw c refl, rw c refl)

  pub step_at_largest : step_code (pos largest) s d l
      ≡ cond (eqb d 0 || ltb 65535 d) STEP (cond (step_over largest s d l) OVER DONE)
  unfolding step_code below_one
  step_at_largest = refl

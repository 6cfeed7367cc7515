-- Whole numbers and the range of a step: cancellation, the magnitude of a sum, and the tests by which a machine number
-- shows that a - e stays within ±(K + 1) without taking the difference. By cases of the signs.
use Rattle.std.specs.Prelude.{◌≡◌, refl, true, false, ℤ, pos, negsuc, nat_abs, neg_ℤ, ◌+ℤ◌}
use Rattle.std.proofs.Common.{sym, ◌∙◌, true≢false, not-suc-le-zero, arith}
use Prim.Native.Nat.{ℕ, zero, suc, ◌+◌, ◌-◌, ◌<◌, ◌≤◌}
use borrow.Author.Tests.{lt-ltb, le-ltb, le-leb, lt-leb, leb-true, leb-false, ltb-true}
use Rattle.std.proofs.Math.IntN.{neg_ℤ-neg_ℤ, sub_ℕ, +ℤ-neg_ℤ_cancel, -ℤ-+ℤ_cancel}
use Rattle.std.specs.Int.Signed.{le_z, lt_z, mag}
use Rattle.definitions.specs.Integers.{◌⊕◌, ◌⊝◌, ⊖}
use Rattle.definitions.specs.Steps.{in_range}
use Rattle.step_laws.specs.Tests.{by_order, same_test}

-- a - b + b and a + b - b
pub sub-add : (a b : ℤ) → a ⊝ b ⊕ b ≡ a
unfolding ◌⊕◌ ⊖
sub-add a b = -ℤ-+ℤ_cancel a b

pub add-sub : (a b : ℤ) → a ⊕ b ⊝ b ≡ a
unfolding ◌⊕◌ ⊖
add-sub a b = +ℤ-neg_ℤ_cancel a b

-- ---- magnitudes

abs_sub : (a b n : ℕ) → a ≤ b + n → b ≤ a + n → nat_abs (sub_ℕ a b) ≤ n
abs_sub a b n h k = by_order a b (λ l. rw (lt-ltb a b l) (omega arith)) (λ l. rw (le-ltb a b l) (omega arith))

abs_sum : (a b : ℤ) → nat_abs (a +ℤ b) ≤ nat_abs a + nat_abs b
abs_sum (pos a) (pos b) = omega arith
abs_sum (pos a) (negsuc b) = abs_sub a (suc b) (a + suc b) (omega arith) (omega arith)
abs_sum (negsuc a) (pos b) = abs_sub b (suc a) (suc a + b) (omega arith) (omega arith)
abs_sum (negsuc a) (negsuc b) = omega arith

abs_neg : (a : ℤ) → nat_abs (neg_ℤ a) ≡ nat_abs a
abs_neg (pos zero) = refl
abs_neg (pos (suc n)) = refl
abs_neg (negsuc n) = refl

pub abs_⊖ : (a : ℤ) → nat_abs (⊖ a) ≡ nat_abs a
unfolding ⊖
abs_⊖ a = abs_neg a

pub abs_⊕ : (a b : ℤ) → nat_abs (a ⊕ b) ≤ nat_abs a + nat_abs b
unfolding ◌⊕◌
abs_⊕ a b = abs_sum a b

pub abs_⊝ : (a b : ℤ) → nat_abs (a ⊝ b) ≤ nat_abs a + nat_abs b
unfolding ◌⊕◌ ⊖
abs_⊝ a b = rw (abs_neg b) at (abs_sum a (neg_ℤ b))

-- in range: the magnitude is at most w
pub in_range_lem : (w : ℕ) (v : ℤ) → nat_abs v ≤ w → in_range w v ≡ true
unfolding in_range
in_range_lem w v h = le-leb (nat_abs v) w h

pub range_in : (w : ℕ) (v : ℤ) → in_range w v ≡ true → nat_abs v ≤ w
unfolding in_range
range_in w v h = leb-true (nat_abs v) w h

pub mag_abs : (v : ℤ) → mag v ≤ nat_abs v
mag_abs (pos n) = omega arith
mag_abs (negsuc n) = omega arith

-- ---- the tests

module _ (K : ℕ) where
  -- e is negative: only the upper end can be passed
  pub upper_test : (a e : ℤ) → mag a < suc (suc K) → nat_abs e ≤ suc (suc K) → lt_z e (pos 0) ≡ true
      → le_z a (pos (suc K) +ℤ e) ≡ in_range (suc K) (a ⊝ e)
  unfolding in_range ◌⊕◌ ⊖
  upper_test a (pos n) ha he t = absurd (not-suc-le-zero (ltb-true n 0 t))
  upper_test (pos m) (negsuc n) ha he t =
      by_order (suc K) (suc n) (λ l. rw (lt-ltb (suc K) (suc n) l) (sym (lt-leb (m + suc n) (suc K) (omega arith))))
      (λ l. rw (le-ltb (suc K) (suc n) l)
      (same_test m (suc K - suc n) (m + suc n) (suc K) (λ h. omega arith) (λ h. omega arith)))
  upper_test (negsuc m) (negsuc n) ha he t =
      rw (le-leb (nat_abs (sub_ℕ (suc n) (suc m))) (suc K) (abs_sub (suc n) (suc m) (suc K) (omega arith) (omega arith)))
      (by_order (suc K) (suc n) (λ l. rw (lt-ltb (suc K) (suc n) l) (le-leb (suc n - suc (suc K)) m (omega arith)))
      (λ l. rw (le-ltb (suc K) (suc n) l) refl))

  -- e is not negative: only the lower end
  pub lower_test : (a e : ℤ) → mag a < suc (suc K) → nat_abs e ≤ suc (suc K) → lt_z e (pos 0) ≡ false
      → le_z (negsuc K +ℤ e) a ≡ in_range (suc K) (a ⊝ e)
  unfolding in_range ◌⊕◌ ⊖
  lower_test a (negsuc n) ha he t = absurd (true≢false t)
  lower_test (pos m) (pos zero) ha he t =
      rw (lt-ltb 0 (suc K) (omega arith)) (sym (le-leb (m + 0) (suc K) (omega arith)))
  lower_test (negsuc m) (pos zero) ha he t =
      rw (lt-ltb 0 (suc K) (omega arith), lt-ltb 0 (suc m) (omega arith))
      (same_test m (suc K - 1) (suc (suc m - 1)) (suc K) (λ h. omega arith) (λ h. omega arith))
  lower_test (pos m) (pos (suc n)) ha he t =
      by_order (suc n) (suc K)
      (λ l. rw (lt-ltb (suc n) (suc K) l)
      (sym (le-leb (nat_abs (sub_ℕ m (suc n))) (suc K) (abs_sub m (suc n) (suc K) (omega arith) (omega arith)))))
      (λ l. rw (le-ltb (suc n) (suc K) l)
      (by_order m (suc n)
      (λ k. rw (lt-ltb m (suc n) k)
      (same_test (suc n - suc K) m (suc (suc n - suc m)) (suc K) (λ h. omega arith) (λ h. omega arith)))
      (λ k. rw (le-ltb m (suc n) k)
      (same_test (suc n - suc K) m (m - suc n) (suc K) (λ h. omega arith) (λ h. omega arith)))))
  lower_test (negsuc m) (pos (suc n)) ha he t =
      by_order (suc n) (suc K)
      (λ l. rw (lt-ltb (suc n) (suc K) l)
      (same_test m (suc K - suc (suc n)) (suc (suc (m + n))) (suc K) (λ h. omega arith) (λ h. omega arith)))
      (λ l. rw (le-ltb (suc n) (suc K) l) (sym (lt-leb (suc (suc (m + n))) (suc K) (omega arith))))

  -- the bound that is tested is itself a number of the range, or one below it
  pub upper_fits : (e : ℤ) → nat_abs e ≤ suc (suc K) → lt_z e (pos 0) ≡ true → mag (pos (suc K) +ℤ e) < suc (suc K)
  upper_fits (pos n) he t = absurd (not-suc-le-zero (ltb-true n 0 t))
  upper_fits (negsuc n) he t =
      by_order (suc K) (suc n) (λ l. rw (lt-ltb (suc K) (suc n) l) (omega arith))
      (λ l. rw (le-ltb (suc K) (suc n) l) (omega arith))

  pub lower_fits : (e : ℤ) → nat_abs e ≤ suc (suc K) → lt_z e (pos 0) ≡ false → mag (negsuc K +ℤ e) < suc (suc K)
  lower_fits (negsuc n) he t = absurd (true≢false t)
  lower_fits (pos n) he t =
      by_order n (suc K) (λ l. rw (lt-ltb n (suc K) l) (omega arith)) (λ l. rw (le-ltb n (suc K) l) (omega arith))

-- the sign of -b
pub neg_test : (b : ℤ) → lt_z (neg_ℤ b) (pos 0) ≡ lt_z (pos 0) b
neg_test (pos zero) = refl
neg_test (pos (suc n)) = sym (lt-ltb 0 (suc n) (omega arith))
neg_test (negsuc n) = le-ltb (suc n) 0 (omega arith)

-- a sum is a difference from the negative
pub sum_as : (a b : ℤ) → a ⊝ neg_ℤ b ≡ a ⊕ b
unfolding ◌⊕◌ ⊖
sum_as a b = rw neg_ℤ-neg_ℤ

pub abs_mag : (v : ℤ) → nat_abs v ≤ suc (mag v)
abs_mag (pos n) = omega arith
abs_mag (negsuc n) = omega arith

pub abs_negℤ : (v : ℤ) → nat_abs (neg_ℤ v) ≤ suc (mag v)
abs_negℤ v = rw abs_neg (abs_mag v)

-- within ±w: the lower test, and where it holds the upper one
pub above_test : (w : ℕ) (x : ℤ) → 1 ≤ w → le_z (neg_ℤ (pos w)) x ≡ true → le_z x (pos w) ≡ in_range w x
unfolding in_range
above_test zero x one h = absurd (not-suc-le-zero one)
above_test (suc q) (pos n) one h = refl
above_test (suc q) (negsuc n) one h = sym (le-leb (suc n) (suc q) (omega (arith, leb-true n q h)))

pub below_test : (w : ℕ) (x : ℤ) → 1 ≤ w → le_z (neg_ℤ (pos w)) x ≡ false → le_z (neg_ℤ (pos w)) x ≡ in_range w x
unfolding in_range
below_test zero x one h = absurd (not-suc-le-zero one)
below_test (suc q) (pos n) one h = absurd (true≢false h)
below_test (suc q) (negsuc n) one h = h ∙ sym (lt-leb (suc n) (suc q) (omega (arith, leb-false n q h)))

-- A value, or None where it is outside the range from -(2^63 - 1) to 2^63 - 1. What is put under a number that is
-- outside leaves it outside, so it may be told before.
use Rattle.std.specs.Prelude.{◌≡◌, refl, Bool, true, false, cond, ℕ, suc, ◌*◌, ◌^◌, ◌<◌, ◌≤◌, ℤ, pos, negsuc, nat_abs, Option, Some, None}
use Rattle.std.specs.Option.{option_and_then}
use Rattle.std.proofs.Common.{sym, ap, true≢false, mul-le-mul_left, mul-le-mul_right, arith, le-leb, leb-false, ltb-true, ltb-false}
use Rattle.std.proofs.lemmas.Bool.{lt-leb}
use Rattle.std.specs.Int.Signed.{mag, lt_z}
use Rattle.definitions.specs.Integers.{◌⊕◌, ◌⊗◌}
use Rattle.definitions.specs.Steps.{in_range, largest}
use Rattle.integers.specs.Whole.{⊕_zero}
use Rattle.step_laws.specs.Signed.{abs_mag, mag_abs, range_in}
use Rattle.step_laws.specs.Tests.{by_order}
use Rattle.light_sums.specs.Parts.{joined_least, joined_most, Rest}

unfoldable pub told : ℤ → Option ℤ
told v = cond (in_range largest v) (Some v) None

pub told_in : (v : ℤ) → in_range largest v ≡ true → told v ≡ Some v
unfolding told
told_in v e = rw e

pub told-not : (v : ℤ) → in_range largest v ≡ false → told v ≡ None
unfolding told
told-not v e = rw e

pub told_fits : (v : ℤ) → nat_abs v ≤ largest → told v ≡ Some v
unfolding in_range
told_fits v h = told_in v (le-leb (nat_abs v) largest h)

pub told_out : (v : ℤ) → 2 ^ 63 ≤ nat_abs v → told v ≡ None
unfolding in_range
told_out v h = told-not v (lt-leb (nat_abs v) largest (omega arith))

range-out : (v : ℤ) → in_range largest v ≡ false → largest < nat_abs v
unfolding in_range
range-out v o = leb-false (nat_abs v) largest o

-- what was told
pub told_some : (v r : ℤ) → told v ≡ Some r → (in_range largest v ≡ true) × (r ≡ v)
unfolding told
told_some v r = go (in_range largest v) refl
  where
    go : (b : Bool) → in_range largest v ≡ b → cond b (Some v) None ≡ Some r → (in_range largest v ≡ true) × (r ≡ v)
    go true e h = (e, cc)
    go false e h = absurd (cc)

pub told_same : (v : ℤ) → told v ≡ None → in_range largest v ≡ false
unfolding told
told_same v = go (in_range largest v) refl
  where
    go : (b : Bool) → in_range largest v ≡ b → cond b (Some v) None ≡ None → in_range largest v ≡ false
    go true e h = absurd (cc)
    go false e h = e

pub told_mag : (v r : ℤ) → told v ≡ Some r → mag r < 2 ^ 63
told_mag v r e =
    let (inside, is) = told_some v r e in
    rw is (omega (arith, mag_abs v, range_in largest v inside))

-- d is a rest of division by the base m, and k m is 2^63
pub record Joins (base d : ℤ) : Type 0 where
  pub m : ℕ
  pub k : ℕ
  pub is : base ≡ pos m
  pub whole : k * m ≡ 2 ^ 63
  pub rest : Rest m d

-- a number v above a rest d, to base m, where k m is 2^63
module _ (m k : ℕ) (e : k * m ≡ 2 ^ 63) (d : ℕ) (h : d < m) where
  pub out_joined : (v : ℤ) → k ≤ mag v → told (v ⊗ pos m ⊕ pos d) ≡ None
  out_joined v l =
      told_out (v ⊗ pos m ⊕ pos d)
      (omega (arith, mul-le-mul_right m l, joined_least m v d h, mag_abs (v ⊗ pos m ⊕ pos d)))

  pub in_joined : (v : ℤ) → mag v < k → mag (v ⊗ pos m ⊕ pos d) < 2 ^ 63
  in_joined v l = omega (arith, mul-le-mul_right m l, joined_most m v d h)

  -- the part above, by itself
  pub in_times : (v : ℤ) → mag v < k → mag (v ⊗ pos m) < 2 ^ 63
  in_times v l =
      rw (⊕_zero (v ⊗ pos m)) at
      (let most = joined_most m v 0 (omega arith) in
      let short : mag (v ⊗ pos m ⊕ pos 0) < 2 ^ 63 = omega (arith, mul-le-mul_right m l) in
      short)

  -- the part above does not fit
  pub out_above : (v : ℤ) → 2 ^ 63 ≤ mag (v ⊗ pos m) → told (v ⊗ pos m ⊕ pos d) ≡ None
  out_above v l =
      by_order (mag v) k (λ few. absurd (omega (arith, in_times v few))) (λ many. out_joined v many)

  -- nor is in range what is put under a number that is not
  out_under : 2 ≤ m → (v : ℤ) → in_range largest v ≡ false → told (v ⊗ pos m ⊕ pos d) ≡ None
  out_under two v o =
      told_out (v ⊗ pos m ⊕ pos d)
      (omega (
        arith,
        mul-le-mul_right m far,
        mul-le-mul_left largest two,
        joined_least m v d h,
        mag_abs (v ⊗ pos m ⊕ pos d),
      ))
    where
      far : largest ≤ mag v
      far = omega (arith, range-out v o, abs_mag v)

  pub told_joined : 2 ≤ m → (v : ℤ) → option_and_then (λ u. told (u ⊗ pos m ⊕ pos d)) (told v)
      ≡ told (v ⊗ pos m ⊕ pos d)
  told_joined two v = go (told v) refl
    where
      go : (o : Option ℤ) → told v ≡ o → option_and_then (λ u. told (u ⊗ pos m ⊕ pos d)) o ≡ told (v ⊗ pos m ⊕ pos d)
      go None e = sym (out_under two v (told_same v e))
      go (Some u) e = ap (λ n. told (n ⊗ pos m ⊕ pos d)) (told_some v u e).1

-- the tests of a number between -k and k - 1, with k = suc q
module _ (q : ℕ) where
  pub test_low : (v : ℤ) → lt_z v (negsuc q) ≡ true → suc q ≤ mag v
  test_low (pos n) t = absurd (true≢false (sym t))
  test_low (negsuc n) t = ltb-true q n t

  pub test_high : (v : ℤ) → lt_z (pos q) v ≡ true → suc q ≤ mag v
  test_high (pos n) t = ltb-true q n t
  test_high (negsuc n) t = absurd (true≢false (sym t))

  pub test_between : (v : ℤ) → lt_z v (negsuc q) ≡ false → lt_z (pos q) v ≡ false → mag v < suc q
  test_between (pos n) s t = omega (arith, ltb-false q n t)
  test_between (negsuc n) s t = omega (arith, ltb-false q n s)

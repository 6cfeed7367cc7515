-- A machine number taken apart to base m, and put together, where k m is 2^63: each value on the way fits, and what is
-- put together is told.
use mathlib.Core.Path.{◌≡◌, refl, sym, ◌∙◌, ap, ap₂}
use mathlib.Core.List.{[], ◌∷◌}
use Prim.Native.Nat.{ℕ, zero, suc, ◌*◌, ◌^◌, ◌<◌, ◌≤◌}
use native.Mathlib.Nat.{suc-mul}
use native.Mathlib.Omega.{arith}
use lib.IntN.{ℤ, pos, negsuc, nat_abs, ◌+ℤ◌, ◌*ℤ◌}
use lib.Signed.{mag, shr_z, mag_shr}
use Rattle.std.specs.Prelude.{Some, None}
use mir.Syntax.{w64}
use mir.Val.{SFits, of_z}
use mir.Facts.{to_z-of_z}
use Rattle.definitions.specs.Integers.{◌⊕◌, ◌⊝◌, ◌⊗◌}
use Rattle.definitions.specs.Steps.{largest}
use Rattle.integers.specs.Solver.{x, y, z, w, ◌:+◌, ◌:*◌, :-}
use Rattle.integers.specs.Whole.{ringℤ}
use Rattle.step_laws.specs.Signed.{mag_abs}
use Rattle.step_laws.specs.Machine.{seen, seen_both, handed}
use Rattle.step_laws.specs.Tests.{by_order}
use Rattle.light_sums.specs.Parts.{rest, rest_below, split, mag_above}
use Rattle.light_sums.specs.Told.{Joins, told, told_fits, told_out, in_times, out_above}

pub small_fits : (v : ℤ) → nat_abs v < 2 ^ 63 → SFits w64 v
small_fits v h = record { sfits = omega (arith, mag_abs v) }

pub shr_fits : (m : ℕ) (v : ℤ) → SFits w64 v → SFits w64 (shr_z v m)
shr_fits m v f = record { sfits = omega (arith, mag_shr v m, f.sfits) }

module _ (m k : ℕ) (e : k * m ≡ 2 ^ 63) (two : 2 ≤ m) where
  -- the rest
  pub rest_is : (v : ℤ) → v ⊝ shr_z v m ⊗ pos m ≡ pos (rest m v)
  rest_is v =
      ap (λ n. n ⊝ shr_z v m ⊗ pos m) (split m (omega arith) v)
      ∙ ringℤ (shr_z v m ∷ pos m ∷ pos (rest m v) ∷ []) (x :* y :+ z :+ :- (x :* y)) z refl

  -- what the rest's part above is added to
  pub carried : (a v : ℤ) → (a ⊕ shr_z v m) ⊗ pos m ⊕ pos (rest m v) ≡ a ⊗ pos m ⊕ v
  carried a v =
      ringℤ (a ∷ shr_z v m ∷ pos m ∷ pos (rest m v) ∷ []) ((x :+ y) :* z :+ w) (x :* z :+ (y :* z :+ w)) refl
      ∙ ap (λ n. a ⊗ pos m ⊕ n) (sym (split m (omega arith) v))

  less : m ≤ 2 ^ 63
  less = small k e
    where
      small : (k : ℕ) → k * m ≡ 2 ^ 63 → m ≤ 2 ^ 63
      small zero e = absurd (omega arith)
      small (suc k) e = omega (arith, suc-mul k m)

  pub rest_fits : (v : ℤ) → SFits w64 (pos (rest m v))
  rest_fits v = record { sfits = omega (arith, less, rest_below m (omega arith) v) }

  module _ (v h : ℤ) (f : SFits w64 v) (is : h ≡ shr_z v m) where
    above-seen : seen h ≡ shr_z v m
    above-seen = handed (shr_fits m v f) is

    above_small : mag (shr_z v m) < k
    above_small = mag_above m k (omega arith) v (omega (arith, f.sfits))

    pub rest_asks : SFits w64 (seen h ⊗ pos m) × SFits w64 (seen v ⊝ seen h ⊗ pos m)
    rest_asks =
        rw (above-seen, to_z-of_z f) (
          record { sfits = in_times m k e 0 (omega arith) (shr_z v m) above_small },
          rw (rest_is v) (rest_fits v),
        )

    pub rest-seen : (r : ℤ) → r ≡ seen v ⊝ seen h ⊗ pos m → seen r ≡ pos (rest m v)
    rest-seen r g =
        handed (rest_fits v) (g ∙ ap₂ (λ a b. a ⊝ b ⊗ pos m) (to_z-of_z f) above-seen ∙ rest_is v)
    -- put together

-- ---- what is told of a machine number, and of one that no machine number is
pub told-least : (v : ℤ) → of_z w64 v ≡ 9223372036854775808 → told v ≡ None
told-least (pos n) e = told_out (pos n) (omega arith)
told-least (negsuc n) e = told_out (negsuc n) (omega arith)

other_small : (v : ℤ) → SFits w64 v → (of_z w64 v ≡ 9223372036854775808 → ⊥) → nat_abs v ≤ largest
other_small (pos n) f o = omega (arith, f.sfits)
other_small (negsuc n) f o = omega (arith, f.sfits, o)

pub told_other : (v : ℤ) → SFits w64 v → (of_z w64 v ≡ 9223372036854775808 → ⊥) → Some (seen v) ≡ told v
told_other v f o = ap Some (to_z-of_z f) ∙ sym (told_fits v (other_small v f o))

unfit : (v : ℤ) → (SFits w64 v → ⊥) → 2 ^ 63 ≤ mag v
unfit v n = by_order (mag v) (2 ^ 63) (λ l. absurd (n (record { sfits = l }))) (λ l. l)

-- ---- a number above a rest: where no machine number is the product, or the sum, it is outside the range
module _ {v base d : ℤ} (J : Joins base d) (f : SFits w64 v) (g : SFits w64 base) where
  pub above_out : (SFits w64 (seen v *ℤ seen base) → ⊥) → told (v ⊗ base ⊕ d) ≡ None
  unfolding ◌⊗◌
  above_out n =
      let many : 2 ^ 63 ≤ mag (v ⊗ pos J.m) = unfit (v ⊗ pos J.m) (rw (seen_both f g ◌*ℤ◌, J.is) at n) in
      rw (J.is, J.rest.is) (out_above J.m J.k J.whole J.rest.size J.rest.below v many)

  module _ (h : SFits w64 d) {p : ℤ} (fits : SFits w64 (seen v *ℤ seen base)) (is : p ≡ seen v *ℤ seen base) where
    sum_is : seen p +ℤ seen d ≡ v ⊗ base ⊕ d
    unfolding ◌⊗◌ ◌⊕◌
    sum_is =
        ap₂ ◌+ℤ◌ (handed (rw (seen_both f g ◌*ℤ◌) at fits) (is ∙ seen_both f g ◌*ℤ◌)) (to_z-of_z h)

    pub sum_out : (SFits w64 (seen p +ℤ seen d) → ⊥) → told (v ⊗ base ⊕ d) ≡ None
    sum_out n =
        let many = unfit (v ⊗ base ⊕ d) (rw sum_is at n) in
        told_out (v ⊗ base ⊕ d) (omega (arith, mag_abs (v ⊗ base ⊕ d)))

    pub sum_told : {s : ℤ} → SFits w64 (seen p +ℤ seen d) → s ≡ seen p +ℤ seen d → told (seen s) ≡ told (v ⊗ base ⊕ d)
    sum_told k e = ap told (handed (rw sum_is at k) (e ∙ sum_is))

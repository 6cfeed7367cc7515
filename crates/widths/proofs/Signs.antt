-- Two's complement of a signed number by its sign and what stands beside it (heights' Signs), and the way back from the
-- bits.
use Prim.Native.Nat.{ℕ, suc, ◌+◌, ◌*◌, ◌-◌, ◌<◌, ◌^◌}
use mathlib.Core.Path.{◌≡◌, refl, sym}
use mathlib.Core.Bool.{Bool, true, false, not, cond, true≢false}
use native.Mathlib.Omega.{arith}
use native.Mathlib.Numerals.{add-one}
use lib.IntN.{ℤ, pos, negsuc}
use lib.Signed.{mag, non_neg}
use mir.Syntax.{w64}
use mir.Val.{SFits, to_z}
use mir.Facts.{to_z-neg}
use Rattle.heights.proofs.Signs.{Below, tested}
use Rattle.widths.specs.Numbers.{twos}

-- below 0: two's complement
module _ (x : ℤ) (fit : SFits w64 x) (e : Below true x) where
  pub twos_below : (w : ℕ) → twos w x ≡ 2 ^ (8 * w) - (mag x + 1)
  unfolding twos
  twos_below w = go x (tested true x fit e)
    where
      go : (y : ℤ) → not (non_neg y) ≡ true → twos w y ≡ 2 ^ (8 * w) - (mag y + 1)
      go (pos n) t = absurd (true≢false (sym t))
      go (negsuc n) t = rw add-one

-- and else
module _ (x : ℤ) (fit : SFits w64 x) (e : Below false x) where
  pub twos-above : (w : ℕ) → twos w x ≡ mag x
  unfolding twos
  twos-above w = go x (tested false x fit e)
    where
      go : (y : ℤ) → not (non_neg y) ≡ false → twos w y ≡ mag y
      go (pos n) t = refl
      go (negsuc n) t = absurd (true≢false t)

-- the way back: m, all bits turned round, stands for -(m + 1)
pub whole : (b : Bool) (m : ℕ) → b ≡ true → m < 2 ^ 63 → to_z w64 (18446744073709551615 - m) ≡ cond b (negsuc m) (pos m)
whole b m e small =
    let bits : 18446744073709551615 - m ≡ 2 ^ 64 - suc m = omega arith in
    rw (e, bits) (to_z-neg w64 m small)

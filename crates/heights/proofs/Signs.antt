-- A signed number as its sign and what stands beside it, n for n and for -(n + 1): the tests and the casts of the
-- leaves, at 64 bits. A number that was read is `to_z w64 (of_z w64 x)`; all its bits turned round are 2^64 - 1 less its
-- bits.
use Prim.Native.Nat.{ℕ, suc, ◌+◌, ◌-◌, ◌<◌, ◌≤◌, ◌^◌}
use mathlib.Core.Path.{◌≡◌, sym, ◌∙◌}
use mathlib.Core.Bool.{Bool, true, false, not, true≢false}
use native.Mathlib.Omega.{arith}
use native.Mathlib.Numerals.{add-one}
use lib.Bits.{bit_or, or_add_and, and_le_l, and_le_r}
use lib.IntN.{ℤ, pos, negsuc, nat_abs}
use lib.Signed.{mag, lt_z, non_neg}
use lib.Dec.{T}
use mir.Syntax.{w64}
use mir.Val.{SFits, Fits, to_z, of_z}
use mir.Facts.{to_z-of_z, to_z_pos}
use borrow.Author.Tests.{le-ltb}

abbrev pub Below : Bool → ℤ → Type 0
Below b x = lt_z (to_z w64 (of_z w64 x)) (pos 0) ≡ b

-- the test of a number that was read
pub tested : (b : Bool) (x : ℤ) → SFits w64 x → Below b x → not (non_neg x) ≡ b
tested b (pos n) fit e = sym (le-ltb n 0 (omega arith)) ∙ (rw (to_z-of_z fit) at e)
tested b (negsuc n) fit e = rw (to_z-of_z fit) at e

-- what a cast to u64 asks
pub casts : {z : ℤ} {m : ℕ} → z ≡ pos m → m < 2 ^ 63 → T (non_neg z) × Fits w64 (nat_abs z)
casts e small = rw e (tt, record { fits = omega arith })

-- below 0: the bits turned round stand for what is beside the sign; the magnitude
module _ (x : ℤ) (fit : SFits w64 x) (e : Below true x) where
  pub turned : to_z w64 (18446744073709551615 - of_z w64 x) ≡ pos (mag x)
  turned = go x fit (tested true x fit e)
    where
      go : (y : ℤ) → SFits w64 y → not (non_neg y) ≡ true → to_z w64 (18446744073709551615 - of_z w64 y) ≡ pos (mag y)
      go (pos n) f t = absurd (true≢false (sym t))
      go (negsuc n) f t =
          let small : n < 2 ^ 63 = f.sfits in
          let back : 18446744073709551615 - (2 ^ 64 - suc n) ≡ n = omega arith in
          rw back (to_z_pos w64 small)

  pub nat_abs_below : mag x + 1 ≡ nat_abs x
  nat_abs_below = go x (tested true x fit e)
    where
      go : (y : ℤ) → not (non_neg y) ≡ true → mag y + 1 ≡ nat_abs y
      go (pos n) t = absurd (true≢false (sym t))
      go (negsuc n) t = add-one n

-- and else
pub plain : (x : ℤ) → SFits w64 x → Below false x → to_z w64 (of_z w64 x) ≡ pos (mag x)
plain x fit e = go x fit (tested false x fit e)
  where
    go : (y : ℤ) → SFits w64 y → not (non_neg y) ≡ false → to_z w64 (of_z w64 y) ≡ pos (mag y)
    go (pos n) f t = to_z_pos w64 f.sfits
    go (negsuc n) f t = absurd (true≢false t)

-- a signed number that a call gave, or that was handed to one
pub passed : (x : ℤ) → mag x < 2 ^ 63 → to_z w64 (of_z w64 x) ≡ x
passed x small = to_z-of_z {w = w64} (record { sfits = small })

-- bits put together are no less than those that were put
pub or_above : (a b : ℕ) → (a ≤ bit_or a b) × (b ≤ bit_or a b)
or_above a b = (omega (arith, or_add_and a b, and_le_r a b), omega (arith, or_add_and a b, and_le_l a b))

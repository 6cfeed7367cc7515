-- The sign of bits put together: none is lost, so what has come together is below 0 where one of them is. And of h - x
-- and h + x, for small h and x: neither is below 0 only where the magnitude of x is at most h.
use Prim.Native.Nat.{ℕ, zero, suc, ◌+◌, ◌-◌, ◌<◌, ◌≤◌, ◌^◌}
use mathlib.Core.Path.{◌≡◌, refl, sym, ◌∙◌}
use mathlib.Core.Bool.{true, true≢false}
use native.Mathlib.Omega.{arith}
use borrow.Author.Tests.{lt-ltb, le-ltb, le-leb}
use lib.Bits.{bit_or}
use lib.IntN.{ℤ, pos, negsuc, nat_abs, ◌+ℤ◌, ◌-ℤ◌}
use lib.Signed.{le_z}
use mir.Syntax.{w64}
use mir.Val.{SFits, to_z, of_z}
use mir.Facts.{to_z-of_z, to_z_pos}
use Rattle.definitions.specs.Integers.{◌⊕◌, ⊖}
use Rattle.step_laws.specs.Tests.{by_order}
use Rattle.step_laws.specs.Signed.{abs_⊕, abs_⊝, mag_abs}
use Rattle.step_laws.specs.Machine.{seen}
use Rattle.heights.proofs.Signs.{or_above}
use Rattle.entry_steps.specs.Passes.{addable}

-- the bits of a number that is not below 0, as the code tests it, and of two put together
abbrev pub Unsigned : ℕ → Type 0
Unsigned g = g < 2 ^ 63

pub unsigned_test : (g : ℕ) → le_z (pos 0) (to_z w64 g) ≡ true → Unsigned g
unsigned_test g e =
    by_order g (2 ^ 63) (λ l. l) (λ l. absurd (true≢false (sym e ∙ rw (le-ltb g (2 ^ 63) l) refl)))

pub unsigned_tested : (g : ℕ) → Unsigned g → le_z (pos 0) (to_z w64 g) ≡ true
unsigned_tested g u = rw (to_z_pos w64 u) (le-leb 0 g (omega arith))

pub unsigned_both : (a b : ℕ) → Unsigned (bit_or a b) → Unsigned a × Unsigned b
unsigned_both a b u = (omega (arith, (or_above a b).0), omega (arith, (or_above a b).1))

-- of h - x and h + x
below_zero : (k : ℕ) → k ≤ addable → Unsigned (of_z w64 (negsuc k)) → ⊥
below_zero k s u = omega arith

small_fits : (z : ℤ) → nat_abs z ≤ addable + addable → SFits w64 z
small_fits z s = record { sfits = omega (arith, mag_abs z) }

within : (h : ℕ) (x : ℤ) → nat_abs x ≤ addable → Unsigned (of_z w64 (pos h -ℤ x)) → Unsigned (of_z w64 (pos h +ℤ x))
    → nat_abs x ≤ h
within h (pos zero) s u v = omega arith
within h (pos (suc n)) s u v =
    by_order h (suc n) (λ l. absurd (below_zero (suc n - suc h) (omega arith) (rw (lt-ltb h (suc n) l) at u))) (λ l. l)
within h (negsuc n) s u v =
    by_order h (suc n) (λ l. absurd (below_zero (suc n - suc h) (omega arith) (rw (lt-ltb h (suc n) l) at v))) (λ l. l)

-- the same as the code takes them, neither of which wraps
module _ (h : ℕ) (x : ℤ) (l : h ≤ addable) (s : nat_abs x ≤ addable) where
  seen_h : to_z w64 h ≡ pos h
  seen_h = to_z_pos w64 (omega arith)

  seen-x : seen x ≡ x
  seen-x = to_z-of_z (small_fits x (omega arith))

  pub difference_fits : SFits w64 (to_z w64 h -ℤ seen x)
  unfolding ◌⊕◌ ⊖
  difference_fits = rw (seen_h, seen-x) (small_fits (pos h -ℤ x) (omega (arith, abs_⊝ (pos h) x)))

  pub sum_fits : SFits w64 (to_z w64 h +ℤ seen x)
  unfolding ◌⊕◌
  sum_fits = rw (seen_h, seen-x) (small_fits (pos h +ℤ x) (omega (arith, abs_⊕ (pos h) x)))

  pub both_unsigned : Unsigned (of_z w64 (to_z w64 h -ℤ seen x)) → Unsigned (of_z w64 (to_z w64 h +ℤ seen x))
      → nat_abs x ≤ h
  both_unsigned u v = within h x s (rw (seen_h, seen-x) at u) (rw (seen_h, seen-x) at v)

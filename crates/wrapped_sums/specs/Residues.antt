-- The laws of numbers modulo 2^64: the residue of a sum and of a negative hangs on the residues alone, and a 64-bit
-- number wraps to itself. By cases of the signs, and `omega`.
use Rattle.std.specs.Prelude.{◌≡◌, ℕ, zero, suc, ◌+◌, ◌-◌, ◌%◌, ◌^◌, ◌<◌, ◌≤◌, ℤ, pos, negsuc, ◌+ℤ◌, FitsSigned, unsigned_abs, refl}
use Rattle.std.proofs.Common.{sym, ◌∙◌, ap, ap₂, arith, lt-ltb, le-ltb, Fits, to_z, of_z, to_z-of_z}
use Rattle.std.proofs.Math.IntN.{sub_ℕ}
use Rattle.std.specs.Int.{w64}
use Rattle.std.proofs.Math.Facts.{of_z-to_z, sfits_to_z}
use Rattle.definitions.specs.Integers.{◌⊕◌, ◌⊝◌, ⊖}
use Rattle.definitions.specs.Steps.{largest}
use Rattle.step_laws.specs.Tests.{by_order}
use Rattle.step_laws.specs.Signed.{mag_abs}
use Rattle.wrapped_sums.specs.Wrapped.{residue, wrap}

pub residue_small : (v : ℤ) → residue v < 2 ^ 64
unfolding residue
residue_small (pos n) = omega arith
residue_small (negsuc n) = omega arith

residue-difference : (a b : ℕ) → residue (sub_ℕ a (suc b)) ≡ (a % 2 ^ 64 + (2 ^ 64 - suc (b % 2 ^ 64))) % 2 ^ 64
unfolding residue
residue-difference a b =
    by_order a (suc b) (λ l. rw (lt-ltb a (suc b) l) (omega arith)) (λ l. rw (le-ltb a (suc b) l) (omega arith))

residue-sum : (a b : ℤ) → residue (a +ℤ b) ≡ (residue a + residue b) % 2 ^ 64
unfolding residue
residue-sum (pos a) (pos b) = omega arith
residue-sum (pos a) (negsuc b) = residue-difference a b
residue-sum (negsuc a) (pos b) = residue-difference b a ∙ omega arith
residue-sum (negsuc a) (negsuc b) = omega arith

pub residue_⊕ : (a b : ℤ) → residue (a ⊕ b) ≡ (residue a + residue b) % 2 ^ 64
unfolding ◌⊕◌
residue_⊕ a b = residue-sum a b

pub residue-⊖ : (a : ℤ) → residue (⊖ a) ≡ (2 ^ 64 - residue a) % 2 ^ 64
unfolding ⊖ residue
residue-⊖ (pos zero) = refl
residue-⊖ (pos (suc n)) = omega arith
residue-⊖ (negsuc n) = omega arith

-- the bits of a 64-bit number
pub bits_residue : (v : ℤ) → FitsSigned w64 v → of_z w64 v ≡ residue v
unfolding residue
bits_residue (pos n) f = omega (arith, f.sfits)
bits_residue (negsuc n) f = omega (arith, f.sfits)

pub residue_fits : (v : ℤ) → Fits w64 (residue v)
residue_fits v = record { fits = residue_small v }

pub wrap_fits : (v : ℤ) → FitsSigned w64 (wrap v)
unfolding wrap
wrap_fits v = sfits_to_z (residue_fits v)

pub wrap_fit : {v : ℤ} → FitsSigned w64 v → wrap v ≡ v
unfolding wrap
wrap_fit {v} f = ap (to_z w64) (sym (bits_residue v f)) ∙ to_z-of_z f

pub residue-wrap : (v : ℤ) → residue (wrap v) ≡ residue v
unfolding wrap
residue-wrap v = sym (bits_residue (wrap v) (wrap_fits v)) ∙ of_z-to_z (residue_fits v)

pub wrap-wrap : (v : ℤ) → wrap (wrap v) ≡ wrap v
wrap-wrap v = wrap_fit (wrap_fits v)

-- equal modulo 2^64: the same residue
pub same_residue : (a b : ℤ) → wrap a ≡ wrap b → residue a ≡ residue b
same_residue a b e = sym (residue-wrap a) ∙ ap residue e ∙ residue-wrap b

pub same_wrap : (a b : ℤ) → residue a ≡ residue b → wrap a ≡ wrap b
unfolding wrap
same_wrap a b e = ap (to_z w64) e

-- sums, negatives and differences of numbers that are equal so are equal so
pub like_⊕ : (a a' b b' : ℤ) → wrap a ≡ wrap a' → wrap b ≡ wrap b' → wrap (a ⊕ b) ≡ wrap (a' ⊕ b')
like_⊕ a a' b b' e f =
    same_wrap (a ⊕ b) (a' ⊕ b')
    (residue_⊕ a b
    ∙ ap₂ (λ x y. (x + y) % 2 ^ 64) (same_residue a a' e) (same_residue b b' f)
    ∙ sym (residue_⊕ a' b'))

pub like_⊖ : (a a' : ℤ) → wrap a ≡ wrap a' → wrap (⊖ a) ≡ wrap (⊖ a')
like_⊖ a a' e =
    same_wrap (⊖ a) (⊖ a')
    (residue-⊖ a ∙ ap (λ x. (2 ^ 64 - x) % 2 ^ 64) (same_residue a a' e) ∙ sym (residue-⊖ a'))

pub like_⊝ : (a a' b b' : ℤ) → wrap a ≡ wrap a' → wrap b ≡ wrap b' → wrap (a ⊝ b) ≡ wrap (a' ⊝ b')
like_⊝ a a' b b' e f = like_⊕ a a' (⊖ b) (⊖ b') e (like_⊖ b b' f)

-- a summand may be wrapped first
pub wrap_⊕ : (a b : ℤ) → wrap (a ⊕ wrap b) ≡ wrap (a ⊕ b)
wrap_⊕ a b = like_⊕ a a (wrap b) b refl (wrap-wrap b)

pub wrap_⊝ : (a b : ℤ) → wrap (a ⊝ wrap b) ≡ wrap (a ⊝ b)
wrap_⊝ a b = like_⊝ a a (wrap b) b refl (wrap-wrap b)

-- a 64-bit number is known by its residue, and so is one whose magnitude is at most 2^63 - 1
pub like_equal : {a c : ℤ} → FitsSigned w64 a → unsigned_abs c ≤ largest → wrap a ≡ wrap c → a ≡ c
like_equal {a} {c} f h e =
    sym (wrap_fit f) ∙ e ∙ wrap_fit (record { sfits = omega (arith, mag_abs c) })

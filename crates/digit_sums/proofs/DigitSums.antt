-- A digit of a machine number: how large it is; and the sum of the products of two digits, as far as the term j.
use mathlib.Core.Path.{◌≡◌, refl, sym, ◌∙◌, ap, ap₂}
use mathlib.Core.List.{List}
use Prim.Native.Nat.{ℕ, zero, suc, ◌+◌, ◌*◌, ◌-◌, ◌<◌, ◌≤◌}
use native.Mathlib.Nat.{mul-le-mul}
use native.Mathlib.Omega.{arith}
use lib.IntN.{ℤ, nat_abs}
use lib.ListN.{get_or}
use lib.Signed.{mag, shr_z}
use mir.Syntax.{w64}
use mir.Val.{SFits}
use mir.Facts.{to_z-of_z}
use Rattle.definitions.specs.Integers.{◌⊕◌, ◌⊗◌, 0ℤ}
use Rattle.definitions.specs.Series.{◌·◌}
use Rattle.definitions.specs.Steps.{entries}
use Rattle.step_laws.specs.Signed.{abs_⊕, abs_mag}
use Rattle.step_laws.specs.Machine.{seen, handed}
use Rattle.light_sums.specs.Parts.{base, rest, rest_below, mag_above}
use Rattle.light_sums.specs.Dots.{dot, dot_more}
use Rattle.light_sums.specs.Weight.{abs_⊗}
use Rattle.light_sums.specs.Terms.{Terms, through, starts, ends}
use Rattle.digit_sums.specs.Digits.{digit_of, digits}
use Rattle.light_sums.proofs.Joins.{small_fits}

pub above_most : (v : ℤ) (k : ℕ) → mag v < k * base → nat_abs (shr_z v base) ≤ k
above_most v k h = omega (arith, abs_mag (shr_z v base), mag_above base k (omega arith) v h)

pub digit_most : (a : ℕ) (v : ℤ) → SFits w64 v → nat_abs (digit_of a v) ≤ base
unfolding digit_of
digit_most zero v f = omega (arith, rest_below base (omega arith) v)
digit_most (suc zero) v f = omega (arith, rest_below base (omega arith) (shr_z v base))
digit_most (suc (suc zero)) v f =
    omega (
      arith,
      above_most (shr_z v base) 524288
          (omega (arith, mag_above base 2199023255552 (omega arith) v (omega (arith, f.sfits)))),
    )
digit_most (suc (suc (suc a))) v f = omega arith

pub digit_fits : (a : ℕ) (v : ℤ) → SFits w64 v → SFits w64 (digit_of a v)
digit_fits a v f = small_fits (digit_of a v) (omega (arith, digit_most a v f))

-- what is answered for the digit a
pub digit_handed : (a k : ℕ) (v : ℤ) {r : ℤ} → SFits w64 v → a ≡ k → r ≡ digit_of k v → seen r ≡ digit_of a v
digit_handed a k v f e is = handed (digit_fits a v f) (is ∙ ap (λ d. digit_of d v) (sym e))

pub no_digit : (a : ℕ) (v : ℤ) → (a ≡ 0 → ⊥) → (a ≡ 1 → ⊥) → (a ≡ 2 → ⊥) → 0ℤ ≡ digit_of a v
unfolding digit_of
no_digit zero v h₀ h₁ h₂ = absurd (h₀ refl)
no_digit (suc zero) v h₀ h₁ h₂ = absurd (h₁ refl)
no_digit (suc (suc zero)) v h₀ h₁ h₂ = absurd (h₂ refl)
no_digit (suc (suc (suc a))) v h₀ h₁ h₂ = refl

digit_none : (a : ℕ) → digit_of a 0ℤ ≡ 0ℤ
unfolding digit_of rest
digit_none zero = refl
digit_none (suc zero) = refl
digit_none (suc (suc zero)) = refl
digit_none (suc (suc (suc a))) = refl

-- ---- the sum as far as the term j
pub record DigitsTo (f b : List ℤ) (i j a c : ℕ) (s : ℤ) : Type 0 where
  pub sum : s ≡ dot (through (digit_of a) f) (through (digit_of c) b) i j
  pub small : nat_abs s ≤ j * 17592186044416

module _ {f b : List ℤ} {i from to : ℕ} (a c : ℕ) (t : Terms f b i from to) where
  pub start : DigitsTo f b i from a c 0ℤ
  start = record { sum = sym (starts (digit_of a) (digit_of c) t (digit_none c)); small = omega arith }

  pub done : {s : ℤ} → DigitsTo f b i to a c s → s ≡ (digits a (entries f) · digits c (entries b)) i
  unfolding digits
  done s = s.sum ∙ ends (digit_of a) (digit_of c) t (digit_none a)

-- one term more, of the entries x and y
module _ {f b : List ℤ} {i j a c : ℕ} {s : ℤ} (so_far : DigitsTo f b i j a c s)
    (fx : SFits w64 (get_or f j 0ℤ)) (fy : SFits w64 (get_or b (i - j) 0ℤ)) where
  abbrev p : ℤ
  p = digit_of a (entries f j) ⊗ digit_of c (entries b (i - j))

  product_small : nat_abs p ≤ 17592186044416
  unfolding entries
  product_small =
      rw (abs_⊗ (digit_of a (entries f j)) (digit_of c (entries b (i - j))))
      (omega (arith, mul-le-mul (digit_most a (entries f j) fx) (digit_most c (entries b (i - j)) fy)))

  more : DigitsTo f b i (j + 1) a c (s ⊕ p)
  more =
      record {
        sum = ap (λ q. q ⊕ p) so_far.sum ∙ sym (dot_more (through (digit_of a) f) (through (digit_of c) b) i j);
        small = omega (arith, so_far.small, abs_⊕ s p, product_small);
      }

  more_asks : j < 65536 → SFits w64 p × SFits w64 (s ⊕ p)
  more_asks few = (small_fits p (omega (arith, product_small)), small_fits (s ⊕ p) (omega (arith, more.small)))

  -- as the machine reads the entries and their digits
  module _ {x y : ℤ} (is : x ≡ digit_of a (seen (get_or f j 0ℤ))) (is_too : y ≡ digit_of c (seen (get_or b (i - j) 0ℤ)))
      (few : j < 65536) where
    product-seen : seen x ⊗ seen y ≡ p
    unfolding entries
    product-seen =
        ap₂ ◌⊗◌ (handed (digit_fits a _ fx) (is ∙ ap (digit_of a) (to_z-of_z fx)))
        (handed (digit_fits c _ fy) (is_too ∙ ap (digit_of c) (to_z-of_z fy)))

    pub term_asks : SFits w64 (seen x ⊗ seen y) × SFits w64 (s ⊕ seen x ⊗ seen y)
    term_asks = rw product-seen (more_asks few)

    pub term_more : {r : ℤ} → r ≡ s ⊕ seen x ⊗ seen y → DigitsTo f b i (j + 1) a c (seen r)
    term_more e = rw (handed (more_asks few).1 (e ∙ ap (λ q. s ⊕ q) product-seen)) more

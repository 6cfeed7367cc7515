-- A product by digits to base 2^22: a number has three, the first two from 0 to 2^22 - 1, the last with its sign. The
-- product of two series is that of their digits' series, place by place: at the place k stand the products of the
-- digits a and k - a.
use Rattle.std.specs.Prelude.{◌≡◌, refl, [], ◌∷◌, ℕ, zero, suc, ◌+◌, ◌-◌, ℤ, pos}
use Rattle.std.proofs.Common.{sym, ◌∙◌, ap, ap₂, arith, add-one}
use Rattle.std.proofs.Math.Path.{fun_ext}
use Rattle.std.specs.Int.Signed.{shr_z}
use Rattle.definitions.specs.Integers.{◌⊕◌, ◌⊗◌, 0ℤ}
use Rattle.definitions.specs.Series.{Series, constant, 𝟘, ◌+ˢ◌, ◌·◌}
use Rattle.integers.specs.Solver.{v, ◌:+◌, ◌:*◌}
use Rattle.integers.specs.Whole.{⊕_zero, zero_⊕, ⊕_comm, ⊗_comm, zero_⊗}
use Rattle.series.specs.Laws.{at_+ˢ, constant-mul, ·_comm, ringˢ}
use Rattle.series.specs.Degree.{nothing}
use Rattle.light_sums.specs.Parts.{base, rest, split}

unfoldable pub digit_of : ℕ → ℤ → ℤ
digit_of zero n = pos (rest base n)
digit_of (suc zero) n = pos (rest base (shr_z n base))
digit_of (suc (suc zero)) n = shr_z (shr_z n base) base
digit_of (suc (suc (suc a))) n = 0ℤ

unfoldable pub digits : ℕ → Series → Series
digits a f i = digit_of a (f i)

-- what stands at the place k of the product's coefficient at i: the first n products of two digits, and all
unfoldable pub place_to : Series → Series → ℕ → ℕ → ℕ → ℤ
place_to f g i k zero = 0ℤ
place_to f g i k (suc a) = place_to f g i k a ⊕ (digits a f · digits (k - a) g) i

abbrev pub place : Series → Series → ℕ → ℕ → ℤ
place f g i k = place_to f g i k (suc k)

-- the number that has c(k), c(k + 1) and so on at its first n places
unfoldable pub number : (ℕ → ℤ) → ℕ → ℕ → ℤ
number c zero k = 0ℤ
number c (suc n) k = c k ⊕ number c n (suc k) ⊗ pos base

pub place_more : (f g : Series) (i k a : ℕ) → place_to f g i k (a + 1)
    ≡ place_to f g i k a ⊕ (digits a f · digits (k - a) g) i
unfolding place_to
place_more f g i k a = ap (place_to f g i k) (add-one a)

pub place_none : (f g : Series) (i k : ℕ) → place_to f g i k 0 ≡ 0ℤ
unfolding place_to
place_none f g i k = refl

pub number_more : (c : ℕ → ℤ) (n k : ℕ) → number c (suc n) k ≡ c k ⊕ number c n (suc k) ⊗ pos base
unfolding number
number_more c n k = refl

pub number_last : (c : ℕ → ℤ) (k : ℕ) → number c 1 k ≡ c k
unfolding number
number_last c k = ap (λ a. c k ⊕ a) (zero_⊗ (pos base)) ∙ ⊕_zero (c k)

-- ---- a series by its digits
X : Series
X = constant (pos base)

at_X : (h : Series) (i : ℕ) → (h · X) i ≡ h i ⊗ pos base
unfolding X
at_X h i =
    ap (λ s. s i) (·_comm h (constant (pos base))) ∙ constant-mul (pos base) h i ∙ ⊗_comm (pos base) (h i)

upper_digits : (f : Series) (i : ℕ) → (digits 1 f +ˢ digits 2 f · X) i ≡ shr_z (f i) base
unfolding digits digit_of
upper_digits f i =
    at_+ˢ (digits 1 f) (digits 2 f · X) i ∙ ap (λ a. digits 1 f i ⊕ a) (at_X (digits 2 f) i)
    ∙ ⊕_comm (digits 1 f i) (digits 2 f i ⊗ pos base) ∙ sym (split base (omega arith) (shr_z (f i) base))

all_digits : (f : Series) (i : ℕ) → (digits 0 f +ˢ (digits 1 f +ˢ digits 2 f · X) · X) i ≡ f i
unfolding digits digit_of
all_digits f i =
    at_+ˢ (digits 0 f) ((digits 1 f +ˢ digits 2 f · X) · X) i
    ∙ ap (λ a. digits 0 f i ⊕ a)
    (at_X (digits 1 f +ˢ digits 2 f · X) i ∙ ap (λ a. a ⊗ pos base) (upper_digits f i))
    ∙ ⊕_comm (digits 0 f i) (shr_z (f i) base ⊗ pos base) ∙ sym (split base (omega arith) (f i))

by_digits : (f : Series) → f ≡ digits 0 f +ˢ (digits 1 f +ˢ digits 2 f · X) · X
by_digits f = fun_ext (λ i. sym (all_digits f i))

-- the product of three digits and three
module _ (f₀ f₁ f₂ g₀ g₁ g₂ : Series) where
  expanded : (f₀ +ˢ (f₁ +ˢ f₂ · X) · X) · (g₀ +ˢ (g₁ +ˢ g₂ · X) · X)
      ≡ f₀ · g₀
      +ˢ ((f₀ · g₁ +ˢ f₁ · g₀)
      +ˢ ((f₀ · g₂ +ˢ f₁ · g₁ +ˢ f₂ · g₀) +ˢ ((f₁ · g₂ +ˢ f₂ · g₁) +ˢ f₂ · g₂ · X) · X) · X)
      · X
  expanded =
      ringˢ (f₀ ∷ f₁ ∷ f₂ ∷ g₀ ∷ g₁ ∷ g₂ ∷ X ∷ [])
      ((v 0 :+ (v 1 :+ v 2 :* v 6) :* v 6) :* (v 3 :+ (v 4 :+ v 5 :* v 6) :* v 6))
      (v 0 :* v 3
      :+ ((v 0 :* v 4 :+ v 1 :* v 3)
      :+ ((v 0 :* v 5 :+ v 1 :* v 4 :+ v 2 :* v 3) :+ ((v 1 :* v 5 :+ v 2 :* v 4) :+ v 2 :* v 5 :* v 6) :* v 6)
      :* v 6)
      :* v 6)
      refl

  expanded_at : (i : ℕ) → ((f₀ +ˢ (f₁ +ˢ f₂ · X) · X) · (g₀ +ˢ (g₁ +ˢ g₂ · X) · X)) i
      ≡ (f₀ · g₀) i
      ⊕ ((f₀ · g₁) i ⊕ (f₁ · g₀) i
      ⊕ ((f₀ · g₂) i ⊕ (f₁ · g₁) i ⊕ (f₂ · g₀) i
      ⊕ ((f₁ · g₂) i ⊕ (f₂ · g₁) i ⊕ (f₂ · g₂) i ⊗ pos base) ⊗ pos base)
      ⊗ pos base)
      ⊗ pos base
  expanded_at i = ap (λ s. s i) expanded ∙ simp (at_+ˢ, at_X)

-- no number has a fourth digit
left-none : (a : ℕ) (f g : Series) (i : ℕ) → digits a f ≡ 𝟘 → (digits a f · g) i ≡ 0ℤ
left-none a f g i e = ap (λ s. (s · g) i) e ∙ constant-mul 0ℤ g i ∙ zero_⊗ (g i)

right-none : (a : ℕ) (f g : Series) (i : ℕ) → digits a g ≡ 𝟘 → (f · digits a g) i ≡ 0ℤ
right-none a f g i e = ap (λ s. s i) (·_comm f (digits a g)) ∙ left-none a g f i e

fourth : (f : Series) → digits 3 f ≡ 𝟘
unfolding digits digit_of
fourth f = nothing (digits 3 f) (λ i l. refl)

fifth : (f : Series) → digits 4 f ≡ 𝟘
unfolding digits digit_of
fifth f = nothing (digits 4 f) (λ i l. refl)

pub digits_product : (f g : Series) (i : ℕ) → number (place f g i) 5 0 ≡ (f · g) i
unfolding number place_to
digits_product f g i =
    simp (
      left-none 3 f (digits 0 g) i (fourth f),
      left-none 3 f (digits 1 g) i (fourth f),
      left-none 4 f (digits 0 g) i (fifth f),
      right-none 3 (digits 0 f) g i (fourth g),
      right-none 3 (digits 1 f) g i (fourth g),
      right-none 4 (digits 0 f) g i (fifth g),
      zero_⊕,
      ⊕_zero,
      zero_⊗,
    )
    (sym (expanded_at (digits 0 f) (digits 1 f) (digits 2 f) (digits 0 g) (digits 1 g) (digits 2 g) i)
    ∙ ap₂ (λ s t. (s · t) i) (sym (by_digits f)) (sym (by_digits g)))

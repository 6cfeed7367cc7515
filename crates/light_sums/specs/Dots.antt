-- A coefficient of a product as a sum: that of f g at i is the sum of f(j) g(i - j) for j up to i. Terms that are 0 may
-- be left out at either end.
use Rattle.std.specs.Prelude.{◌≡◌, refl, ℕ, zero, suc, ◌+◌, ◌-◌, ◌<◌, ◌≤◌, ℤ}
use Rattle.std.proofs.Common.{sym, ◌∙◌, ap, ap₂, arith, add-one}
use Rattle.std.proofs.Math.Nat as NatL
use Rattle.definitions.specs.Integers.{◌⊕◌, ◌⊗◌, 0ℤ}
use Rattle.definitions.specs.Series.{Series, tail, ◌·◌}
use Rattle.integers.specs.Whole.{⊕_assoc, ⊕_zero, zero_⊕, zero_⊗, ⊗_zero}
use Rattle.series.specs.Laws.{at_mul-zero, at_mul-suc}

-- the first n terms of the coefficient at i
unfoldable pub dot : Series → Series → ℕ → ℕ → ℤ
dot f g i zero = 0ℤ
dot f g i (suc n) = dot f g i n ⊕ f n ⊗ g (i - n)

dot-tail : (f g : Series) (i n : ℕ) → dot f g (suc i) (suc n) ≡ f zero ⊗ g (suc i) ⊕ dot (tail f) g i n
unfolding dot
dot-tail f g i zero =
    ap (λ k. 0ℤ ⊕ f zero ⊗ g k) (whole i) ∙ zero_⊕ (f zero ⊗ g (suc i)) ∙ sym (⊕_zero (f zero ⊗ g (suc i)))
  where
    whole : (i : ℕ) → suc i - 0 ≡ suc i
    whole i = omega arith
dot-tail f g i (suc n) =
    ap₂ (λ a k. a ⊕ f (suc n) ⊗ g k) (dot-tail f g i n) (back i n)
    ∙ ⊕_assoc (f zero ⊗ g (suc i)) (dot (tail f) g i n) (f (suc n) ⊗ g (i - n))
  where
    back : (i n : ℕ) → suc i - suc n ≡ i - n
    back i n = omega arith

pub dot-product : (f g : Series) (i : ℕ) → dot f g i (suc i) ≡ (f · g) i
unfolding dot
dot-product f g zero = zero_⊕ (f zero ⊗ g zero) ∙ sym (at_mul-zero f g)
dot-product f g (suc i) =
    dot-tail f g i (suc i) ∙ ap (λ a. f zero ⊗ g (suc i) ⊕ a) (dot-product (tail f) g i) ∙ sym (at_mul-suc f g i)

-- one term more
pub dot_more : (f g : Series) (i n : ℕ) → dot f g i (n + 1) ≡ dot f g i n ⊕ f n ⊗ g (i - n)
unfolding dot
dot_more f g i n = ap (dot f g i) (add-one n)

-- terms that are 0 add nothing: no term at all, and none from n on
pub dot-none : (f g : Series) (i n : ℕ) → ((j : ℕ) → j < n → g (i - j) ≡ 0ℤ) → dot f g i n ≡ 0ℤ
unfolding dot
dot-none f g i zero h = refl
dot-none f g i (suc n) h =
    ap₂ (λ a b. a ⊕ f n ⊗ b) (dot-none f g i n (λ j l. h j (omega arith))) (h n (omega arith))
    ∙ ap (λ a. 0ℤ ⊕ a) (⊗_zero (f n)) ∙ ⊕_zero 0ℤ

dot_past : (f g : Series) (i n k : ℕ) → ((j : ℕ) → n ≤ j → j < k + n → f j ≡ 0ℤ) → dot f g i (k + n) ≡ dot f g i n
unfolding dot
dot_past f g i n zero h = ap (dot f g i) (NatL.zero-add n)
dot_past f g i n (suc k) h =
    ap (dot f g i) (NatL.suc-add k n)
    ∙ ap₂ (λ a b. a ⊕ b ⊗ g (i - (k + n))) (dot_past f g i n k (λ j a l. h j a (omega arith)))
    (h (k + n) (omega arith) (omega arith))
    ∙ ap (λ a. dot f g i n ⊕ a) (zero_⊗ (g (i - (k + n)))) ∙ ⊕_zero (dot f g i n)

pub dot-whole : (f g : Series) (i n : ℕ) → n ≤ suc i → ((j : ℕ) → n ≤ j → j ≤ i → f j ≡ 0ℤ)
    → dot f g i n ≡ (f · g) i
dot-whole f g i n l h =
    sym (dot_past f g i n (suc i - n) (λ j a b. h j a (omega arith))) ∙ ap (dot f g i) (NatL.sub-add_cancel l)
    ∙ dot-product f g i

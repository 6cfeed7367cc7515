-- The weight of a list, its magnitudes added up: a coefficient of its product with a series is no larger than the
-- weight times a bound of the other's coefficients (`product_bound`); and the weight is no larger than the list's
-- length times a bound of its own (`weight-most`).
use Rattle.std.specs.Prelude.{◌≡◌, refl, List, [], ◌∷◌, ℕ, zero, suc, ◌+◌, ◌*◌, ◌-◌, ◌≤◌, length, ℤ, pos, negsuc, nat_abs, neg_ℤ}
use Rattle.std.proofs.Common.{ap, le_trans, mul-le-mul_left, mul-le-mul_right, add-mul, suc-mul, arith, add-one}
use Rattle.definitions.specs.Integers.{◌⊕◌, ◌⊗◌}
use Rattle.definitions.specs.Series.{Series, tail, ◌·◌}
use Rattle.definitions.specs.Steps.{entries}
use Rattle.step_laws.specs.Signed.{abs_⊕}
use Rattle.step_laws.specs.Bound.{Bounded}
use Rattle.light_sums.specs.Dots.{dot, dot-product}

-- the magnitudes of a list, added up
unfoldable pub weight : List ℤ → ℕ
weight [] = 0
weight (c ∷ cs) = nat_abs c + weight cs

pub weight-most : (l : List ℤ) (h : ℕ) → Bounded h (entries l) → weight l ≤ length l * h
unfolding weight entries
weight-most [] h b = omega arith
weight-most (c ∷ cs) h b =
    omega (arith, b 0, weight-most cs h (λ i. b (suc i)), suc-mul (length cs) h)

abs_neg : (n : ℕ) → nat_abs (neg_ℤ (pos n)) ≡ n
abs_neg zero = refl
abs_neg (suc n) = refl

pub abs_⊗ : (a b : ℤ) → nat_abs (a ⊗ b) ≡ nat_abs a * nat_abs b
unfolding ◌⊗◌
abs_⊗ (pos a) (pos b) = refl
abs_⊗ (pos a) (negsuc b) = abs_neg (a * suc b)
abs_⊗ (negsuc a) (pos b) = abs_neg (suc a * b)
abs_⊗ (negsuc a) (negsuc b) = refl

pub abs_term : (x y : ℤ) (h : ℕ) → nat_abs y ≤ h → nat_abs (x ⊗ y) ≤ nat_abs x * h
abs_term x y h l = rw (abs_⊗ x y) (mul-le-mul_left (nat_abs x) l)

pub abs_more : (s x y : ℤ) (w h : ℕ) → nat_abs s ≤ w * h → nat_abs y ≤ h → nat_abs (s ⊕ x ⊗ y) ≤ (w + nat_abs x) * h
abs_more s x y w h a l =
    omega (arith, abs_⊕ s (x ⊗ y), abs_term x y h l, add-mul w (nat_abs x) h)

-- those of the first n coefficients
unfoldable pub weight_to : Series → ℕ → ℕ
weight_to f zero = 0
weight_to f (suc n) = weight_to f n + nat_abs (f n)

pub weight_to_more : (f : Series) (n : ℕ) → weight_to f (n + 1) ≡ weight_to f n + nat_abs (f n)
unfolding weight_to
weight_to_more f n = ap (weight_to f) (add-one n)

weight_to-tail : (f : Series) (n : ℕ) → weight_to f (suc n) ≡ nat_abs (f zero) + weight_to (tail f) n
unfolding weight_to
weight_to-tail f zero = omega arith
weight_to-tail f (suc n) = omega (arith, weight_to-tail f n)

pub weight_to-most : (l : List ℤ) (n : ℕ) → weight_to (entries l) n ≤ weight l
unfolding weight weight_to entries
weight_to-most [] zero = omega arith
weight_to-most [] (suc n) = omega (arith, weight_to-most [] n)
weight_to-most (c ∷ cs) zero = omega arith
weight_to-most (c ∷ cs) (suc n) = omega (arith, weight_to-tail (entries (c ∷ cs)) n, weight_to-most cs n)

pub weight_to-none : (f : Series) → weight_to f 0 ≡ 0
unfolding weight_to
weight_to-none f = refl

pub weight_to-whole : (l : List ℤ) → weight_to (entries l) (length l) ≡ weight l
unfolding weight weight_to entries
weight_to-whole [] = refl
weight_to-whole (c ∷ cs) = omega (arith, weight_to-tail (entries (c ∷ cs)) (length cs), weight_to-whole cs)

pub dot_bound : (f g : Series) (h : ℕ) → Bounded h g → (i n : ℕ) → nat_abs (dot f g i n) ≤ weight_to f n * h
unfolding dot weight_to
dot_bound f g h b i zero = omega arith
dot_bound f g h b i (suc n) =
    abs_more (dot f g i n) (f n) (g (i - n)) (weight_to f n) h (dot_bound f g h b i n) (b (i - n))

-- the coefficients of a product are no larger than a factor's weight times a bound of the other
pub product_bound : (l : List ℤ) (g : Series) (h : ℕ) → Bounded h g → (i : ℕ) → nat_abs ((entries l · g) i)
    ≤ weight l * h
product_bound l g h b i =
    rw (← dot-product (entries l) g i)
    (le_trans (dot_bound (entries l) g h b i (suc i)) (mul-le-mul_right h (weight_to-most l (suc i))))

-- One prime more. For p prime, F(n) with z^p for z is F(np), times F(n) where p does not divide n (`prime_more`). A
-- divisor of np is p e with e a divisor of n, or a divisor of n that p does not divide (`split_divisors`); so both
-- sides have the product z^(np) - 1 over the divisors of n, and `same-family` applies.
use Rattle.std.specs.Prelude.{ℕ, zero, suc, ◌*◌, ◌<◌, ◌≡◌, refl, Bool, true, false, not, ◌&&◌}
use Rattle.std.specs.Int.{◌∣◌}
use Rattle.std.proofs.Math.Path.{sym, ap, ap₂}
use Rattle.std.proofs.Common.{◌∙◌}
use Rattle.std.proofs.Math.Bool.{cond, and-true}
use Rattle.std.proofs.Math.Nat as NatL
use Rattle.definitions.specs.Integers.{◌⊗◌, 1ℤ}
use Rattle.definitions.specs.Series.{Series, 𝟙, ◌+ˢ◌, _ˢ, ◌·◌, z^, spread}
use Rattle.definitions.specs.Numbers.{divides}
use Rattle.definitions.specs.Polynomials.{product_to, at_divisors, over_divisors, z^_1, F}
use Rattle.series.specs.Laws.{·_one}
use Rattle.series.specs.Maps.{spread-mul, spread-add, spread-neg, spread-constant, spread-zero, spread-z^}
use Rattle.numbers.specs.Folds.{fold_to, only, only_off, fold_same, fold-by, fold-further}
use Rattle.numbers.specs.Folds.{fold-multiples}
use Rattle.numbers.specs.Tests.{same, denies, test_and, test_not, test_divides, divides_yes, divides_no}
use Rattle.numbers.specs.Primes.{Prime, prime_pos, divides-without}
use Rattle.numbers.specs.Divisors.{divides-times}
use Rattle.numbers.specs.Divisors as Divisors
use Rattle.cyclotomic.specs.Family.{times, product-fold, product_same, same-family, product_law, unit_F}

-- ---- z^t for z in a product
pub spread_product : (t : ℕ) → 0 < t → (g : ℕ → Series) (k : ℕ) → spread t (product_to k g)
    ≡ product_to k (λ d. spread t (g d))
unfolding product_to
spread_product t h g zero = spread-constant t h 1ℤ
spread_product t h g (suc k) = spread-mul t h (product_to k g) (g (suc k))
    ∙ ap (λ q. q · spread t (g (suc k))) (spread_product t h g k)

pub spread-z^_1 : (t : ℕ) → 0 < t → (n : ℕ) → spread t (z^_1 n) ≡ z^_1 (n * t)
unfolding z^_1
spread-z^_1 t h n =
    spread-add t h (z^ n) (_ˢ 𝟙) ∙ ap₂ ◌+ˢ◌ (spread-z^ t h n) (spread-neg t h 𝟙 ∙ ap _ˢ (spread-constant t h 1ℤ))

spread-cond : (t : ℕ) → 0 < t → (b : Bool) (f : Series) → spread t (cond b f 𝟙) ≡ cond b (spread t f) 𝟙
spread-cond t h true f = refl
spread-cond t h false f = spread-constant t h 1ℤ

pub spread_divisors : (t : ℕ) → 0 < t → (n : ℕ) (g : ℕ → Series) (k : ℕ) → spread t (product_to k (at_divisors n g))
    ≡ product_to k (at_divisors n (λ d. spread t (g d)))
unfolding at_divisors
spread_divisors t h n g k = spread_product t h (at_divisors n g) k
    ∙ product_same k (λ d l u. spread-cond t h (divides d n) (g d))

-- ---- the divisors of n p
-- g where p does not divide d
unfoldable pub unless_divides : ℕ → (ℕ → Series) → ℕ → Series
unless_divides p g d = cond (divides p d) 𝟙 (g d)

module _ (g : ℕ → Series) {p : ℕ} (P : Prime p) (n : ℕ) (pos : 0 < n) where
  multiples :
      fold_to times (only times (λ d. divides d (n * p) && divides p d) g) (n * p)
      ≡ fold_to times (only times (λ e. divides e n) (λ e. g (e * p))) n
  multiples =
      fold-multiples times _ p (prime_pos P)
      (λ d no-p. only_off times _ _ (denies (test_and (test_divides d (n * p)) (test_divides p d)) (λ h. no-p h.1)))
      n
      ∙ fold_same times n (λ e l u. ap₂ (λ b d. cond b (g d) 𝟙)
      (ap₂ ◌&&◌ (divides-times p e n (prime_pos P)) (divides_yes p (p * e) (NatL.dvd-mul_right p e))
      ∙ and-true (divides e n)) (NatL.mul_comm p e))

  both_tests : (d : ℕ) → (divides d (n * p) && not (divides p d)) ≡ (divides d n && not (divides p d))
  both_tests d =
      same (test_and (test_divides d (n * p)) (test_not (test_divides p d)))
      (test_and (test_divides d n) (test_not (test_divides p d)))
      (λ h. (divides-without n d P h.1 h.0, h.1)) (λ h. (NatL.dvd-mul_right_of_dvd d h.0 p, h.1))

  picks : (b c : Bool) (f : Series) → cond (b && not c) f 𝟙 ≡ cond b (cond c 𝟙 f) 𝟙
  picks true true f = refl
  picks true false f = refl
  picks false c f = refl

  others :
      fold_to times (only times (λ d. divides d (n * p) && not (divides p d)) g) (n * p)
      ≡ fold_to times (at_divisors n (unless_divides p g)) n
  unfolding at_divisors unless_divides
  others =
      fold_same times (n * p) (λ d l u. ap (λ b. cond b (g d) 𝟙) (both_tests d)
      ∙ picks (divides d n) (divides p d) (g d))
      ∙ fold-further times _ n (n * p) (NatL.le-mul_of_pos_right n (prime_pos P))
      (λ d l u. only_off times _ _ (divides_no d n (λ h. NatL.not-le_of_lt l (NatL.le_of_dvd pos h))))

  pub split_divisors : over_divisors (n * p) g ≡ over_divisors n (λ e. g (e * p)) · over_divisors n (unless_divides p g)
  unfolding over_divisors at_divisors
  split_divisors =
      product-fold (n * p) (at_divisors (n * p) g)
      ∙ fold-by times (λ d. divides d (n * p)) (λ d. divides p d) g (n * p)
      ∙ ap₂ ◌·◌ (multiples ∙ sym (product-fold n (at_divisors n (λ e. g (e * p)))))
      (others ∙ sym (product-fold n (at_divisors n (unless_divides p g))))

pub divisors_both : (n : ℕ) (g h : ℕ → Series) (k : ℕ) → product_to k (at_divisors n g) · product_to k (at_divisors n h)
    ≡ product_to k (at_divisors n (λ d. g d · h d))
unfolding at_divisors
divisors_both n g h k =
    ap₂ ◌·◌ (product-fold k (at_divisors n g)) (product-fold k (at_divisors n h))
    ∙ sym (product-fold k (at_divisors n (λ d. g d · h d)) ∙ Divisors.divisors_both times n g h k)

pub over_both : (n : ℕ) (g h : ℕ → Series) → over_divisors n (λ d. g d · h d) ≡ over_divisors n g · over_divisors n h
unfolding over_divisors
over_both n g h = sym (divisors_both n g h n)

-- ---- F at n p
pub prime_more : (p : ℕ) → Prime p → (n : ℕ) → 0 < n → F (n * p) · unless_divides p F n ≡ spread p (F n)
unfolding over_divisors
prime_more p P =
    same-family (λ n. F (n * p) · unless_divides p F n) (λ n. spread p (F n))
    (λ n h. ap₂ ◌⊗◌ (spread-zero p (prime_pos P) (F n)) (spread-zero p (prime_pos P) (F n)) ∙ unit_F n)
    (λ n h. over_both n (λ d. F (d * p)) (unless_divides p F) ∙ sym (split_divisors F P n h)
    ∙ product_law (n * p) (NatL.mul-pos h (prime_pos P))
    ∙ sym (spreads n h))
  where
    spreads : (n : ℕ) → 0 < n → over_divisors n (λ d. spread p (F d)) ≡ z^_1 (n * p)
    spreads n h = sym (spread_divisors p (prime_pos P) n F n) ∙ ap (spread p) (product_law n h)
        ∙ spread-z^_1 p (prime_pos P) n

pub prime_old : (p : ℕ) → Prime p → (n : ℕ) → 0 < n → p ∣ n → F (n * p) ≡ spread p (F n)
unfolding unless_divides
prime_old p P n h d =
    sym (·_one (F (n * p))) ∙ sym (ap (λ b. F (n * p) · cond b 𝟙 (F n)) (divides_yes p n d)) ∙ prime_more p P n h

pub prime_new : (p : ℕ) → Prime p → (n : ℕ) → 0 < n → ¬ (p ∣ n) → F (n * p) · F n ≡ spread p (F n)
unfolding unless_divides
prime_new p P n h d = sym (ap (λ b. F (n * p) · cond b 𝟙 (F n)) (divides_no p n d)) ∙ prime_more p P n h

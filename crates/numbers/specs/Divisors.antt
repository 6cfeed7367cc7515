-- The divisors of n p, for a prime p: those of n, and the p e with e a divisor of n where p e is none. Said of a fold
-- over the divisors, in any commutative monoid: it carries the number theory of F, I and phi.
use Rattle.std.specs.Prelude.{ℕ, ◌*◌, ◌/◌, ◌<◌, ◌≤◌, ◌≡◌, refl, Bool, true, false, cond, not, ◌&&◌}
use Rattle.std.specs.Int.{◌∣◌}
use Rattle.std.proofs.Common.{sym, ap, ap₂, ◌∙◌, mul_comm, le-mul_of_pos_right, not-le_of_lt}
use Rattle.std.proofs.Math.Bool.{and-true}
use Rattle.std.proofs.Math.Nat.{dvd_trans, mul-div_assoc, mul-div-mul_left, dvd-mul_right, dvd-mul_right_of_dvd, dvd_of_mul-dvd-mul_left, mul-dvd-mul_left, le_of_dvd}
use Rattle.definitions.specs.Numbers.{divides}
use Rattle.numbers.specs.Tests.{same, denies, test_and, test_not, test_divides, divides_no, yes_divides}
use Rattle.numbers.specs.Primes.{quotient-divides, Prime, prime_pos, divides-without}
use Rattle.numbers.specs.Folds.{Monoid, fold_to, only, only_off, fold-by, fold_both, fold_same, fold-further}
use Rattle.numbers.specs.Folds.{fold-multiples}

-- p e divides n p where e divides n
pub divides-times : (p e n : ℕ) → 0 < p → divides (p * e) (n * p) ≡ divides e n
divides-times p e n l =
    rw (mul_comm n p)
    (same (test_divides (p * e) (p * n)) (test_divides e n) (dvd_of_mul-dvd-mul_left e l) (mul-dvd-mul_left e p))

-- two folds over divisors: of things that are equal at each divisor, and of two factors
module _ {A : Type 0} (M : Monoid A) (n : ℕ) (g h : ℕ → A) where
  pub divisors-same :
      (k : ℕ) → ((d : ℕ) → 0 < d → d ≤ k → d ∣ n → g d ≡ h d)
      → fold_to M (only M (λ d. divides d n) g) k ≡ fold_to M (only M (λ d. divides d n) h) k
  divisors-same k e = fold_same M k (λ d l u. go (divides d n) (λ t. e d l u (yes_divides d n t)))
    where
      go : {x y : A} (b : Bool) → (b ≡ true → x ≡ y) → cond b x M.unit ≡ cond b y M.unit
      go true e = e refl
      go false e = refl

  pub divisors_both :
      (k : ℕ)
      → fold_to M (only M (λ d. divides d n) (λ d. M.op (g d) (h d))) k
      ≡ M.op (fold_to M (only M (λ d. divides d n) g) k) (fold_to M (only M (λ d. divides d n) h) k)
  divisors_both k = fold_same M k (λ d l u. go (divides d n) (g d) (h d)) ∙ fold_both M _ _ k
    where
      go : (b : Bool) (x y : A) → cond b (M.op x y) M.unit ≡ M.op (cond b x M.unit) (cond b y M.unit)
      go true x y = refl
      go false x y = sym (M.unit_left M.unit)

module _ {A : Type 0} (M : Monoid A) (g : ℕ → A) {p : ℕ} (P : Prime p) (n : ℕ) (pos : 0 < n) where
  those-of-n :
      fold_to M (only M (λ d. divides d (n * p) && divides d n) g) (n * p) ≡ fold_to M (only M (λ d. divides d n) g) n
  those-of-n =
      fold_same M (n * p)
      (λ d l u. ap (λ b. cond b (g d) M.unit)
      (same (test_and (test_divides d (n * p)) (test_divides d n)) (test_divides d n) (λ h. h.1)
      (λ h. (dvd-mul_right_of_dvd d h p, h))))
      ∙ fold-further M _ n (n * p) (le-mul_of_pos_right n (prime_pos P))
      (λ d l u. only_off M _ _ (divides_no d n (λ h. not-le_of_lt l (le_of_dvd pos h))))

  the_others :
      fold_to M (only M (λ d. divides d (n * p) && not (divides d n)) g) (n * p)
      ≡ fold_to M (only M (λ e. divides e n && not (divides (p * e) n)) (λ e. g (p * e))) n
  the_others =
      fold-multiples M _ p (prime_pos P)
      (λ d no-p. only_off M _ _
      (denies (test_and (test_divides d (n * p)) (test_not (test_divides d n)))
      (λ h. h.1 (divides-without n d P no-p h.0))))
      n
      ∙ fold_same M n
      (λ e l u. ap (λ b. cond (b && not (divides (p * e) n)) (g (p * e)) M.unit)
      (divides-times p e n (prime_pos P)))

  pub split :
      fold_to M (λ d. cond (divides d (n * p)) (g d) M.unit) (n * p)
      ≡ M.op (fold_to M (λ d. cond (divides d n) (g d) M.unit) n)
      (fold_to M (λ e. cond (divides e n && not (divides (p * e) n)) (g (p * e)) M.unit) n)
  split = fold-by M (λ d. divides d (n * p)) (λ d. divides d n) g (n * p) ∙ ap₂ M.op those-of-n the_others

  -- where p does not divide n, no p e does
  pub split-new :
      ¬ (p ∣ n)
      → fold_to M (λ d. cond (divides d (n * p)) (g d) M.unit) (n * p)
      ≡ M.op (fold_to M (λ d. cond (divides d n) (g d) M.unit) n)
      (fold_to M (λ e. cond (divides e n) (g (p * e)) M.unit) n)
  split-new no-p = split ∙ ap (M.op _) (fold_same M n (λ e l u. ap (λ b. cond b (g (p * e)) M.unit) (no_more e)))
    where
      no_more : (e : ℕ) → (divides e n && not (divides (p * e) n)) ≡ divides e n
      no_more e =
          ap (λ b. divides e n && not b) (divides_no (p * e) n (λ h. no-p (dvd_trans p (dvd-mul_right p e) h)))
          ∙ and-true (divides e n)

-- n p by a divisor of n, and by p times one
pub quotient-old : (n p d : ℕ) → d ∣ n → n * p / d ≡ n / d * p
quotient-old n p d h = rw (mul_comm n p) (mul-div_assoc d p h ∙ mul_comm p (n / d))

pub quotient_new : (n p d : ℕ) → 0 < p → n * p / (p * d) ≡ n / d
quotient_new n p d l = rw (mul_comm n p) (mul-div-mul_left n d l)

pub quotient-free : (n p d : ℕ) → ¬ (p ∣ n) → d ∣ n → ¬ (p ∣ n / d)
quotient-free n p d no-p h k = no-p (dvd_trans p k (quotient-divides d n h))

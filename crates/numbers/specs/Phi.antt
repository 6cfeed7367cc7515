-- phi of n p for a prime p: the numbers coprime to n come in periods of n, so n p has p phi(n) of them; if p divides n
-- these are the numbers coprime to n p, else the multiples p e of p go, and there are phi(n) of those. Also bounds, and
-- that phi is even above 2.
use Rattle.std.specs.Prelude.{ℕ, zero, suc, ◌+◌, ◌*◌, ◌-◌, ◌/◌, ◌%◌, ◌≤◌, ◌<◌, ◌≡◌, refl, Bool, false, cond, not, ◌&&◌, ◌≢◌, ◌⊎◌}
use Rattle.std.specs.Int.{◌∣◌}
use Rattle.std.proofs.Common.{sym, ap, ap₂, ◌∙◌, inl, inr, mul_comm, mul-pos, arith}
use Rattle.std.proofs.Math.Bool.{and-false}
use Rattle.std.proofs.Math.Nat.{dvd_trans, dvd_refl, dvd-mul_left, dvd-mul_right, dvd-mul_left_of_dvd, dvd-mul_right_of_dvd, dvd-add, dvd-add_iff_right, eq-one_of_dvd-one, le_of_dvd}
use Rattle.std.proofs.Math.Decide.{dec_dvd, dec_lt}
use Rattle.definitions.specs.Numbers.{phi, share_factor, divides, count_to, some_to}
use Rattle.numbers.specs.Tests.{same, denies, test_and, test_not, test_divides, divides_no}
use Rattle.numbers.specs.Primes.{Prime, prime_pos, test_coprime, by-primes, divides-without, two_or_odd}
use Rattle.numbers.specs.Folds.{fold_to, only, only_off, fold_same, fold-by, fold-multiples}
use Rattle.numbers.specs.Counts.{sums, count-fold, count-le, count-pos, count-suc, sum-periods}

-- the test that phi counts by
abbrev free : ℕ → ℕ → Bool
free n a = not (share_factor a n)

counted : ℕ → ℕ → ℕ
counted n k = fold_to sums (only sums (free n) (λ a. 1)) k

phi-fold : (n : ℕ) → phi n ≡ counted n n
unfolding phi counted
phi-fold n = count-fold n (free n)

-- coprime to n p is coprime to n and no multiple of p
module _ {p : ℕ} (P : Prime p) where
  not-one : ¬ (p ≡ 1)
  not-one e = omega (arith, P.above)

  free-times : (n a : ℕ) → 0 < a → free (n * p) a ≡ (free n a && not (divides p a))
  free-times n a l =
      same (test_coprime a (n * p) l) (test_and (test_coprime a n l) (test_not (test_divides p a)))
      (λ h. (λ c x y. h c x (dvd-mul_right_of_dvd c y p), λ x. not-one (h p x (dvd-mul_left p n))))
      (λ h c x y. h.0 c x (divides-without n c P (λ z. h.1 (dvd_trans p z x)) y))

  -- a multiple of p is no number coprime to n, if p divides n
  free-old : (n a : ℕ) → p ∣ n → 0 < a → free (n * p) a ≡ free n a
  free-old n a d l =
      same (test_coprime a (n * p) l) (test_coprime a n l) (λ h c x y. h c x (dvd-mul_right_of_dvd c y p))
      (λ h c x y. h c x (divides-without n c P (λ z. not-one (h p (dvd_trans p z x) d)) y))

  -- p e is coprime to n where e is, if p does not divide n
  free_multiple : (n e : ℕ) → ¬ (p ∣ n) → 0 < e → (free n (p * e) && divides p (p * e)) ≡ free n e
  free_multiple n e no-p l =
      same (test_and (test_coprime (p * e) n (mul-pos (prime_pos P) l)) (test_divides p (p * e))) (test_coprime e n l)
      (λ h c x y. h.0 c (dvd-mul_left_of_dvd c x p) y)
      (λ h. (
        λ c x y. h c (divides-without e c P (λ z. no-p (dvd_trans p z y)) (rw (mul_comm p e) at x)) y,
        dvd-mul_right p e,
      ))

-- n + a is coprime to n where a is
free_period : (n a : ℕ) → 0 < a → free n (n + a) ≡ free n a
free_period n a l =
    same (test_coprime (n + a) n (omega arith)) (test_coprime a n l) (λ h c x y. h c (dvd-add c y x) y)
    (λ h c x y. h c ((dvd-add_iff_right c y).1 x) y)

periods : (n p : ℕ) → counted n (n * p) ≡ p * phi n
unfolding counted
periods n p =
    sum-periods _ n (λ a l. ap (λ b. cond b 1 0) (free_period n a l)) p ∙ ap (λ x. p * x) (sym (phi-fold n))

pub phi-old : (n p : ℕ) → Prime p → p ∣ n → phi (n * p) ≡ p * phi n
unfolding counted
phi-old n p P d =
    phi-fold (n * p) ∙ (fold_same sums (n * p) (λ a l u. ap (λ b. cond b 1 0) (free-old P n a d l)) ∙ periods n p)

pub phi_new : (n p : ℕ) → Prime p → ¬ (p ∣ n) → phi (n * p) + phi n ≡ p * phi n
unfolding counted
phi_new n p P no-p =
    omega (arith, ap₂ ◌+◌ multiples others, fold-by sums (free n) (divides p) (λ a. 1) (n * p), periods n p)
  where
    multiples : fold_to sums (only sums (λ a. free n a && divides p a) (λ a. 1)) (n * p) ≡ phi n
    multiples =
        fold-multiples sums _ p (prime_pos P)
        (λ d z. only_off sums _ _ (ap (λ b. free n d && b) (divides_no p d z) ∙ and-false (free n d))) n
        ∙ (fold_same sums n (λ e l u. ap (λ b. cond b 1 0) (free_multiple P n e no-p l)) ∙ sym (phi-fold n))

    others : fold_to sums (only sums (λ a. free n a && not (divides p a)) (λ a. 1)) (n * p) ≡ phi (n * p)
    others =
        sym (phi-fold (n * p) ∙ fold_same sums (n * p) (λ a l u. ap (λ b. cond b 1 0) (free-times P n a l)))

pub phi-times : (n p : ℕ) → Prime p → ¬ (p ∣ n) → phi (n * p) ≡ phi n * (p - 1)
phi-times n p P no-p = omega (arith, phi_new n p P no-p, ap (λ x. phi n * x) whole)
  where
    whole : p ≡ p - 1 + 1
    whole = omega (arith, P.above)

pub phi-one : phi 1 ≡ 1
unfolding phi count_to share_factor some_to divides
phi-one = refl

pub phi-pos : (n : ℕ) → 0 < n → 0 < phi n
unfolding phi
phi-pos n l =
    count-pos (free n) n 1 (omega arith) l ((test_coprime 1 n (omega arith)).says (λ c x y. eq-one_of_dvd-one x))

pub phi-le : (n : ℕ) → phi n ≤ n
unfolding phi
phi-le n = count-le (free n) n

pub phi-lt : (n : ℕ) → 1 < n → phi n < n
unfolding phi
phi-lt zero l = omega arith
phi-lt (suc k) l =
    omega (arith, count-suc (free (suc k)) k, ap {B = ℕ} (λ b. cond b 1 0) itself, count-le (free (suc k)) k)
  where
    itself : free (suc k) (suc k) ≡ false
    itself =
        denies (test_coprime (suc k) (suc k) (omega arith))
        (λ h. omega (arith, h (suc k) (dvd_refl (suc k)) (dvd_refl (suc k))))

-- phi is even above 2: by the primes of n, since p - 1 is even for an odd p
times_even : (a b : ℕ) → b % 2 ≡ 0 → a * b % 2 ≡ 0
times_even a b e = rw (halved b e) (omega arith)
  where
    halved : (x : ℕ) → x % 2 ≡ 0 → x ≡ 2 * (x / 2)
    halved x h = omega arith

even_step : (n p : ℕ) → 0 < n → Prime p → (2 < n → phi n % 2 ≡ 0) → 2 < n * p → phi (n * p) % 2 ≡ 0
even_step n p l P ih u = go (dec_dvd p n) (dec_lt 2 n) (two_or_odd P)
  where
    go : Dec (p ∣ n) → Dec (2 < n) → (p ≡ 2) ⊎ (p ≡ 2 * (p / 2) + 1) → phi (n * p) % 2 ≡ 0
    go (yes d) (yes v) t = rw (phi-old n p P d) (times_even p (phi n) (ih v))
    go (yes d) (no v) t =
        let e : p ≡ 2 = omega (arith, le_of_dvd l d, P.above) in
        omega (arith, phi-old n p P d, ap (λ x. x * phi n) e)
    go (no d) v (inl e) =
        let w : n ≢ 2 = λ x. d (rw (e ∙ sym x) (dvd_refl n)) in
        omega (arith, ih (omega (arith, ap (λ x. n * x) e)), phi_new n p P d, ap (λ x. x * phi n) e)
    go (no d) v (inr e) = omega (arith, phi_new n p P d, ap (λ x. x * phi n) e)

pub phi_even : (n : ℕ) → 2 < n → phi n % 2 ≡ 0
phi_even n l = by-primes (λ m. 2 < m → phi m % 2 ≡ 0) (λ u. absurd (omega arith)) even_step n (omega arith) l

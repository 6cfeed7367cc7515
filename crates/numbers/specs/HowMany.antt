-- How many primes a number has, of those that a test S lets through: a new prime makes it one more. So mu changes its
-- sign with each new prime, and k, the number of odd primes, is that of r.
use Rattle.std.specs.Prelude.{ℕ, ◌+◌, ◌*◌, ◌/◌, ◌%◌, ◌<◌, ◌≡◌, refl, Bool, true, false, not, ◌&&◌, ◌≢◌, eqb}
use Rattle.std.specs.Int.{◌∣◌}
use Rattle.std.proofs.Math.Path.{sym}
use Rattle.std.proofs.Common.{ap, ap₂, ◌∙◌, ⊎_elim, le-mul_of_pos_right, not-le_of_lt, add_comm, mul-pos, arith}
use Rattle.std.proofs.Math.Bool.{and-true}
use Rattle.std.proofs.Math.Nat.{dvd-mul_left, dvd-mul_right_of_dvd, le_of_dvd}
use Rattle.definitions.specs.Numbers.{count_to, is_prime, divides, odd_prime_of, r_of, k_of, primes_of, mu_is_plus}
use Rattle.numbers.specs.Tests.{Tests, same, denies, test_true, test_and, test_not, test_eq, test_divides}
use Rattle.numbers.specs.Primes.{Prime, prime_pos, prime_same, test_prime, euclid, quotient-pos}
use Rattle.numbers.specs.Divisors.{quotient-old, quotient-free}
use Rattle.numbers.specs.Counts.{count_same, count-further, count_by, count-one}
use Rattle.numbers.specs.Apart.{OddSquarefree, by-odd-primes, test_odd_prime, r_prime, prime_r, r-divides}
use Rattle.numbers.specs.Apart.{r-pos}

-- a prime of n that S lets through
abbrev chosen : (ℕ → Bool) → ℕ → ℕ → Bool
chosen S n x = is_prime x && divides x n && S x

test_chosen : (S : ℕ → Bool) (n x : ℕ) → Tests (chosen S n x) ((Prime x × (x ∣ n)) × (S x ≡ true))
test_chosen S n x = test_and (test_and (test_prime x) (test_divides x n)) (test_true (S x))

module _ (S : ℕ → Bool) (q p : ℕ) (l : 0 < q) (P : Prime p) (no-p : ¬ (p ∣ q)) where
  all_but_p : (x : ℕ) → (chosen S (q * p) x && not (eqb x p)) ≡ chosen S q x
  all_but_p x =
      same (test_and (test_chosen S (q * p) x) (test_not (test_eq x p))) (test_chosen S q x)
      (λ h. (
        (
          h.0.0.0,
          ⊎_elim (λ d. d) (λ d. absurd (h.1 (prime_same h.0.0.0 P d)))
              (euclid q p h.0.0.0 h.0.0.1),
        ),
        h.0.1,
      ))
      (λ h. (((h.0.0, dvd-mul_right_of_dvd x h.0.1 p), h.1), λ e. no-p (rw e at h.0.1)))

  p_itself : S p ≡ true → (chosen S (q * p) p && eqb p p) ≡ true
  p_itself s = (test_and (test_chosen S (q * p) p) (test_eq p p)).says (((P, dvd-mul_left p q), s), refl)

  old-count : count_to (q * p) (chosen S q) ≡ count_to q (chosen S q)
  old-count =
      count-further (chosen S q) q (q * p) (le-mul_of_pos_right q (prime_pos P))
      (λ d a b. denies (test_chosen S q d) (λ h. not-le_of_lt a (le_of_dvd l h.0.1)))

  pub chosen-times : S p ≡ true → count_to (q * p) (chosen S (q * p)) ≡ count_to q (chosen S q) + 1
  chosen-times s =
      count_by (chosen S (q * p)) (λ x. eqb x p) (q * p)
      ∙ (ap₂ ◌+◌ just_p (count_same (q * p) (λ x a b. all_but_p x) ∙ old-count) ∙ add_comm 1 _)
    where
      just_p : count_to (q * p) (λ x. chosen S (q * p) x && eqb x p) ≡ 1
      just_p =
          count-one _ p (q * p) (prime_pos P) (le_of_dvd (mul-pos l (prime_pos P)) (dvd-mul_left p q)) (p_itself s)
          (λ d a b u. denies (test_and (test_true (chosen S (q * p) d)) (test_eq d p)) (λ h. u h.1))

pub primes-times : (q p : ℕ) → 0 < q → Prime p → ¬ (p ∣ q) → primes_of (q * p) ≡ primes_of q + 1
unfolding primes_of
primes-times q p l P no-p =
    all_pass_lem (q * p) ∙ (chosen-times (λ x. true) q p l P no-p refl ∙ ap (λ c. c + 1) (sym (all_pass_lem q)))
  where
    all_pass_lem : (n : ℕ) → count_to n (λ x. is_prime x && divides x n) ≡ count_to n (chosen (λ x. true) n)
    all_pass_lem n = count_same n (λ x a b. sym (and-true (is_prime x && divides x n)))

pub primes-one : primes_of 1 ≡ 0
unfolding primes_of count_to is_prime
primes-one = refl

pub mu_times : (q p : ℕ) → 0 < q → Prime p → ¬ (p ∣ q) → mu_is_plus (q * p) ≡ not (mu_is_plus q)
unfolding mu_is_plus
mu_times q p l P no-p =
    rw (primes-times q p l P no-p)
    (same (test_eq ((primes_of q + 1) % 2) 0) (test_not (test_eq (primes_of q % 2) 0)) (λ e u. omega arith)
    (λ u. omega arith))

-- so with a new prime mu(r/d) turns round for every divisor d of r
pub mu_turned : (r p d : ℕ) → 0 < r → Prime p → ¬ (p ∣ r) → d ∣ r → mu_is_plus (r * p / d) ≡ not (mu_is_plus (r / d))
mu_turned r p d l P no-p h =
    rw (quotient-old r p d h) (mu_times (r / d) p (quotient-pos d r l h) P (quotient-free r p d no-p h))

pub k_times : (q p : ℕ) → 0 < q → Prime p → p ≢ 2 → ¬ (p ∣ q) → k_of (q * p) ≡ k_of q + 1
unfolding k_of odd_prime_of
k_times q p l P u no-p = chosen-times (λ x. not (eqb x 2)) q p l P no-p ((test_not (test_eq p 2)).says u)

pub k_one : k_of 1 ≡ 0
unfolding k_of count_to odd_prime_of is_prime
k_one = refl

-- r has the odd primes of n, none of them above r; so k of r is k of n
module _ (n : ℕ) (l : 0 < n) where
  pub r_same_primes : (x : ℕ) → odd_prime_of (r_of n) x ≡ odd_prime_of n x
  r_same_primes x =
      same (test_odd_prime (r_of n) x) (test_odd_prime n x)
      (λ h. ((h.0.0, (r_prime n x h.0.0 h.0.1).0), h.1))
      (λ h. ((h.0.0, prime_r n l x h.0.0 h.0.1 h.1), h.1))

  pub r-none-above : (d : ℕ) → r_of n < d → odd_prime_of n d ≡ false
  r-none-above d a =
      denies (test_odd_prime n d)
      (λ h. not-le_of_lt a (le_of_dvd (r-pos n) (prime_r n l d h.0.0 h.0.1 h.1)))

  pub k_of-r : k_of (r_of n) ≡ k_of n
  unfolding k_of
  k_of-r =
      count_same (r_of n) (λ x a b. r_same_primes x)
      ∙ sym (count-further (odd_prime_of n) (r_of n) n (le_of_dvd l (r-divides n)) (λ d a b. r-none-above d a))

-- an odd number has no other primes, so mu goes by k
pub mu_k : (r : ℕ) → OddSquarefree r → mu_is_plus r ≡ eqb (k_of r % 2) 0
unfolding mu_is_plus
mu_k r O = ap (λ c. eqb (c % 2) 0) (primes_k r O)
  where
    primes_k : (r : ℕ) → OddSquarefree r → primes_of r ≡ k_of r
    primes_k =
        by-odd-primes (λ r. primes_of r ≡ k_of r) (primes-one ∙ sym k_one)
        (λ r p O P u n ih. omega (arith, primes-times r p O.pos P n, k_times r p O.pos P u n))

-- How n is taken apart: r is the product of the distinct odd primes of n, m has the primes of n, and n = m t. r is odd
-- and squarefree, and such numbers are their own r. Also the inductions that the theory of F and I goes by.
use Rattle.std.specs.Prelude.{ℕ, ◌*◌, ◌/◌, ◌<◌, ◌≡◌, refl, true, ◌≢◌}
use Rattle.std.specs.Int.{◌∣◌}
use Rattle.std.proofs.Common.{sym, ap, ◌∙◌, ⊎_elim, mul_comm, mul-one, mul-pos, mul_assoc, eq-or-lt_of_le, arith}
use Rattle.std.proofs.Math.Nat.{dvd_trans, dvd_refl, dvd-mul_left, dvd-mul_right, dvd-mul_left_of_dvd, dvd-mul_right_of_dvd, mul-dvd-mul, mul-div_cancel', le_of_dvd, pos_of_dvd_of_pos, eq-one_of_dvd-one}
use Rattle.std.proofs.Math.Decide.{ℕ_discrete, dec_dvd}
use Rattle.definitions.specs.Numbers.{odd_prime_of, r_of, m_of, t_of}
use Rattle.numbers.specs.Tests.{Tests, test_and, test_not, test_eq, test_divides, divides_yes, divides_no}
use Rattle.numbers.specs.Primes.{prime_two, Prime, prime_pos, prime_same, prime_divisor, test_prime, euclid}
use Rattle.numbers.specs.Primes.{by-primes, quotient-divides, quotient-pos}
use Rattle.numbers.specs.Products.{squarefree_times, times-divides, prime_in_product, picked_in_product}
use Rattle.numbers.specs.Products.{product-pos, product_squarefree, product-divides}

pub record OddSquarefree (r : ℕ) : Type 0 where
  pub pos : 0 < r
  pub odd : ¬ (2 ∣ r)
  pub squarefree : (p : ℕ) → Prime p → ¬ (p * p ∣ r)

pub test_odd_prime : (n p : ℕ) → Tests (odd_prime_of n p) ((Prime p × (p ∣ n)) × (p ≢ 2))
unfolding odd_prime_of
test_odd_prime n p = test_and (test_and (test_prime p) (test_divides p n)) (test_not (test_eq p 2))

module _ (n : ℕ) where
  odd_primes : (x : ℕ) → odd_prime_of n x ≡ true → Prime x
  odd_primes x e = ((test_odd_prime n x).shows e).0.0

  -- the primes of r are the odd primes of n
  pub r_prime : (p : ℕ) → Prime p → p ∣ r_of n → (p ∣ n) × (p ≢ 2)
  unfolding r_of
  r_prime p P d =
      let h : (Prime p × (p ∣ n)) × (p ≢ 2) =
      (test_odd_prime n p).shows (prime_in_product (odd_prime_of n) odd_primes n p P d).1 in
      (h.0.1, h.1)

  pub prime_r : 0 < n → (p : ℕ) → Prime p → p ∣ n → p ≢ 2 → p ∣ r_of n
  unfolding r_of
  prime_r l p P d u =
      picked_in_product (odd_prime_of n) odd_primes n p (le_of_dvd l d) ((test_odd_prime n p).says ((P, d), u))

  pub r-divides : r_of n ∣ n
  unfolding r_of
  r-divides = product-divides (odd_prime_of n) odd_primes n (λ x e. ((test_odd_prime n x).shows e).0.1) n

  pub r-pos : 0 < r_of n
  unfolding r_of
  r-pos = product-pos (odd_prime_of n) odd_primes n

  pub r_odd : ¬ (2 ∣ r_of n)
  r_odd d = (r_prime 2 prime_two d).1 refl

  pub r_odd_squarefree : OddSquarefree (r_of n)
  unfolding r_of
  r_odd_squarefree =
      record { pos = r-pos; odd = r_odd; squarefree = product_squarefree (odd_prime_of n) odd_primes n }

  -- m is r or 2 r
  pub m_even : 2 ∣ n → m_of n ≡ 2 * r_of n
  unfolding m_of
  m_even d = rw (divides_yes 2 n d)

  pub m_odd : ¬ (2 ∣ n) → m_of n ≡ r_of n
  unfolding m_of
  m_odd d = rw (divides_no 2 n d)

  pub m-divides : m_of n ∣ n
  m-divides = go (dec_dvd 2 n)
    where
      go : Dec (2 ∣ n) → m_of n ∣ n
      go (yes d) = rw (m_even d, mul_comm 2 (r_of n)) (times-divides (r_of n) n prime_two r-divides d r_odd)
      go (no d) = rw (m_odd d) r-divides

  pub m-times_t : m_of n * t_of n ≡ n
  unfolding t_of
  m-times_t = mul-div_cancel' (m_of n) m-divides

  pub m-pos : 0 < n → 0 < m_of n
  m-pos l = pos_of_dvd_of_pos m-divides l

  pub t_pos : 0 < n → 0 < t_of n
  unfolding t_of
  t_pos l = quotient-pos (m_of n) n l m-divides

  -- every prime of n divides m
  pub prime_m : 0 < n → (p : ℕ) → Prime p → p ∣ n → p ∣ m_of n
  prime_m l p P d = go (ℕ_discrete p 2) (dec_dvd 2 n)
    where
      go : Dec (p ≡ 2) → Dec (2 ∣ n) → p ∣ m_of n
      go (yes e) (yes h) = rw (e, m_even h) (dvd-mul_right 2 (r_of n))
      go (yes e) (no h) = absurd (h (rw e at d))
      go (no u) (yes h) = rw (m_even h) (dvd-mul_left_of_dvd p (prime_r l p P d u) 2)
      go (no u) (no h) = rw (m_odd h) (prime_r l p P d u)

  pub m-above : 1 < n → 1 < m_of n
  m-above l =
      let (p, P, d) = prime_divisor n l in
      omega (arith, P.above, le_of_dvd (m-pos (omega arith)) (prime_m (omega arith) p P d))

  -- and none of them twice
  pub m_squarefree : (p : ℕ) → Prime p → ¬ (p * p ∣ m_of n)
  m_squarefree = go (dec_dvd 2 n)
    where
      go : Dec (2 ∣ n) → (p : ℕ) → Prime p → ¬ (p * p ∣ m_of n)
      go (yes d) p P h =
          squarefree_times (r_of n) 2 r_odd_squarefree.squarefree prime_two r_odd p P
          (rw (m_even d, mul_comm 2 (r_of n)) at h)
      go (no d) p P h = r_odd_squarefree.squarefree p P (rw (m_odd d) at h)

-- from m to m t, whose primes all divide m: each prime more divides what is there
pub by-repeats :
    (Q : ℕ → Type 0) (m : ℕ)
    → 0 < m
    → Q m
    → ((n p : ℕ) → 0 < n → Prime p → p ∣ n → Q n → Q (n * p))
    → (t : ℕ)
    → 0 < t
    → ((p : ℕ) → Prime p → p ∣ t → p ∣ m)
    → Q (m * t)
by-repeats Q m l q more = by-primes (λ t. ((p : ℕ) → Prime p → p ∣ t → p ∣ m) → Q (m * t)) (λ h. rw (mul-one m) q)
    (λ n p u P ih h. rw (mul_assoc m n p) at
    (more (m * n) p (mul-pos l u) P (dvd-mul_right_of_dvd p (h p P (dvd-mul_left p n)) n)
    (ih (λ x X d. h x X (dvd-mul_right_of_dvd x d p)))))

-- an odd squarefree number is its own r: a prime of r / rOf r would divide rOf r too
pub r_own : (r : ℕ) → OddSquarefree r → r_of r ≡ r
r_own r O = ⊎_elim (λ e. sym (mul-one (r_of r)) ∙ (ap (λ c. r_of r * c) e ∙ whole)) (λ a. absurd (none a))
    (eq-or-lt_of_le (quotient-pos (r_of r) r O.pos (r-divides r)))
  where
    whole : r_of r * (r / r_of r) ≡ r
    whole = mul-div_cancel' (r_of r) (r-divides r)

    none : ¬ (1 < r / r_of r)
    none a =
        let (p, P, d) = prime_divisor (r / r_of r) a in
        let in-r : p ∣ r = dvd_trans p d (quotient-divides (r_of r) r (r-divides r)) in
        let in-own : p ∣ r_of r = prime_r r O.pos p P in-r (λ e. O.odd (rw e at in-r)) in
        O.squarefree p P (rw whole at (mul-dvd-mul p p in-own d))

-- what divides an odd squarefree number is one
pub odd_squarefree_divisor : (d r : ℕ) → OddSquarefree r → d ∣ r → OddSquarefree d
odd_squarefree_divisor d r O h =
    record {
      pos = pos_of_dvd_of_pos h O.pos;
      odd = λ e. O.odd (dvd_trans 2 e h);
      squarefree = λ p P e. O.squarefree p P (dvd_trans (p * p) e h);
    }

-- and so is r p, for a new odd prime p
pub odd_squarefree_times : (r p : ℕ) → OddSquarefree r → Prime p → p ≢ 2 → ¬ (p ∣ r) → OddSquarefree (r * p)
odd_squarefree_times r p O P u n =
    record {
      pos = mul-pos O.pos (prime_pos P);
      odd = λ e. ⊎_elim O.odd (λ d. u (sym (prime_same prime_two P d))) (euclid r p prime_two e);
      squarefree = squarefree_times r p O.squarefree P n;
    }

pub odd_squarefree_one : OddSquarefree 1
odd_squarefree_one =
    record {
      pos = omega arith;
      odd = λ e. omega (arith, eq-one_of_dvd-one e);
      squarefree = λ p P d. omega (arith, eq-one_of_dvd-one (dvd_trans p (dvd-mul_right p p) d), P.above);
    }

-- induction from r to r p over the odd primes of r
pub by-odd-primes :
    (Q : ℕ → Type 0)
    → Q 1
    → ((r p : ℕ) → OddSquarefree r → Prime p → p ≢ 2 → ¬ (p ∣ r) → Q r → Q (r * p))
    → (r : ℕ)
    → OddSquarefree r
    → Q r
by-odd-primes Q one more r O = by-primes (λ n. OddSquarefree n → Q n) (λ o. one) step r O.pos O
  where
    step : (n p : ℕ) → 0 < n → Prime p → (OddSquarefree n → Q n) → OddSquarefree (n * p) → Q (n * p)
    step n p l P ih o =
        more n p below P (λ e. o.odd (rw e (dvd-mul_left 2 n)))
        (λ d. o.squarefree p P (mul-dvd-mul p p d (dvd_refl p))) (ih below)
      where
        below : OddSquarefree n
        below = odd_squarefree_divisor n (n * p) o (dvd-mul_right n p)

-- phi(m) = phi(r) and phi(n) = phi(r) t: a prime that is there already multiplies phi by itself, and a first factor 2
-- by 1.
use Rattle.std.specs.Prelude.{ℕ, ◌*◌, ◌<◌, ◌≡◌}
use Rattle.std.specs.Int.{◌∣◌}
use Rattle.std.proofs.Common.{sym, ap, ◌∙◌, mul-one, mul_assoc, mul_comm, arith}
use Rattle.std.proofs.Math.Nat.{dvd_trans, dvd-mul_left, dvd-mul_right_of_dvd}
use Rattle.std.proofs.Math.Decide.{dec_dvd}
use Rattle.definitions.specs.Numbers.{phi, r_of, m_of, t_of}
use Rattle.numbers.specs.Primes.{Prime, prime_two, by-primes, quotient-divides}
use Rattle.numbers.specs.Phi.{phi-old, phi-times}
use Rattle.numbers.specs.Apart.{r_odd, m_even, m_odd, m-divides, m-times_t, prime_m, t_pos}

pub phi-repeats :
    (m t : ℕ) → 0 < t → ((p : ℕ) → Prime p → p ∣ t → p ∣ m) → phi (m * t) ≡ phi m * t
phi-repeats m = by-primes (λ t. ((p : ℕ) → Prime p → p ∣ t → p ∣ m) → phi (m * t) ≡ phi m * t)
    (λ h. ap phi (mul-one m) ∙ sym (mul-one (phi m))) step
  where
    step :
        (t p : ℕ) → 0 < t → Prime p → (((q : ℕ) → Prime q → q ∣ t → q ∣ m) → phi (m * t) ≡ phi m * t)
        → ((q : ℕ) → Prime q → q ∣ t * p → q ∣ m)
        → phi (m * (t * p)) ≡ phi m * (t * p)
    step t p l P ih h =
        ap phi (sym (mul_assoc m t p))
        ∙ (phi-old (m * t) p P (dvd-mul_right_of_dvd p (h p P (dvd-mul_left p t)) t)
        ∙ omega (arith, ap (λ x. p * x) (ih (λ q Q d. h q Q (dvd-mul_right_of_dvd q d p)))))

pub phi-m : (n : ℕ) → phi (m_of n) ≡ phi (r_of n)
phi-m n = go (dec_dvd 2 n)
  where
    go : Dec (2 ∣ n) → phi (m_of n) ≡ phi (r_of n)
    go (yes d) = ap phi (m_even n d ∙ mul_comm 2 (r_of n))
        ∙ (phi-times (r_of n) 2 prime_two (r_odd n) ∙ mul-one (phi (r_of n)))
    go (no d) = ap phi (m_odd n d)

pub phi-apart : (n : ℕ) → 0 < n → phi n ≡ phi (r_of n) * t_of n
unfolding t_of
phi-apart n l =
    ap phi (sym (m-times_t n))
    ∙ (phi-repeats (m_of n) (t_of n) (t_pos n l)
    (λ p P d. prime_m n l p P (dvd_trans p d (quotient-divides (m_of n) n (m-divides n))))
    ∙ ap (λ x. x * t_of n) (phi-m n))

-- Primes and coprime numbers: what `is_prime` and `share_factor` test, Euclid's lemma, a prime divisor of every number
-- above 1, and induction that goes from n to n p.
use Rattle.std.specs.Prelude.{ℕ, ◌+◌, ◌*◌, ◌-◌, ◌/◌, ◌%◌, ◌≤◌, ◌<◌, ◌≡◌, refl, not, ◌&&◌, ltb, ◌⊎◌}
use Rattle.std.specs.Int.{◌∣◌}
use Rattle.std.proofs.Common.{sym, inl, inr, ⊎_elim, mul_comm, mul-one, eq-or-lt_of_le, arith}
use Rattle.std.proofs.Math.Nat.{dvd_refl, dvd_trans, dvd-mul_left, dvd-mul_right, le_of_dvd, pos_of_dvd_of_pos, div-mul_cancel, div-lt_self, dvd_of_mod-eq-zero}
use Rattle.std.proofs.Math.Decide.{ℕ_discrete, dec_dvd}
use Rattle.definitions.specs.Numbers.{is_prime, share_factor, divides, some_to}
use Rattle.numbers.specs.Tests.{Tests, Some, strong, decided, reads, test_and, test_not, test_some, test_lt}
use Rattle.numbers.specs.Tests.{test_divides}
use Rattle.numbers.specs.Euclid.{Gcd, gcd_of, gcd_divides, gcd_greatest}

pub record Prime (p : ℕ) : Type 0 where
  pub above : 1 < p
  pub only : (c : ℕ) → c ∣ p → (c ≡ 1) ⊎ (c ≡ p)

pub prime_pos : {p : ℕ} → Prime p → 0 < p
prime_pos P = omega (arith, P.above)

-- a divisor of n strictly between 1 and n, as isPrime looks for it
abbrev Proper : ℕ → Type 0
Proper n = Some (n - 1) (λ c. (1 < c) × (c ∣ n))

test_proper : (n : ℕ) → Tests (some_to (n - 1) (λ c. ltb 1 c && divides c n)) (Proper n)
test_proper n = test_some (n - 1) (λ c. test_and (test_lt 1 c) (test_divides c n))

between : (n c : ℕ) → 1 < n → ¬ Proper n → c ∣ n → (c ≡ 1) ⊎ (c ≡ n)
between n c l none d = go (ℕ_discrete c 1) (ℕ_discrete c n)
  where
    pos : 0 < c
    pos = pos_of_dvd_of_pos d (omega arith)

    below : c ≤ n
    below = le_of_dvd (omega arith) d

    go : Dec (c ≡ 1) → Dec (c ≡ n) → (c ≡ 1) ⊎ (c ≡ n)
    go (yes e) q = inl e
    go (no a) (yes e) = inr e
    go (no a) (no b) = absurd (none (c, pos, omega (arith, below), (omega (arith, pos), d)))

prime_has_none : (n : ℕ) → Prime n → ¬ Proper n
prime_has_none n P (c, l, u, w) = ⊎_elim (λ e. omega (arith, w.0)) (λ e. omega (arith, P.above)) (P.only c w.1)

pub test_prime : (p : ℕ) → Tests (is_prime p) (Prime p)
unfolding is_prime
test_prime p =
    reads (test_and (test_lt 1 p) (test_not (test_proper p)))
    (λ h. record { above = h.0; only = λ c. between p c h.0 h.1 }) (λ P. (P.above, prime_has_none p P))

-- every number above 1 has a prime divisor
abbrev PrimeOf : ℕ → Type 0
PrimeOf n = (p : ℕ) × Prime p × (p ∣ n)

pub prime_divisor : (n : ℕ) → 1 < n → (p : ℕ) × Prime p × (p ∣ n)
prime_divisor = strong (λ n. 1 < n → PrimeOf n) step
  where
    step : (n : ℕ) → ((m : ℕ) → m < n → 1 < m → PrimeOf m) → 1 < n → PrimeOf n
    step n ih l = ⊎_elim smaller itself (decided (test_proper n))
      where
        smaller : Proper n → PrimeOf n
        smaller (c, pos, u, w) =
            let q : PrimeOf c = ih c (omega arith) w.0 in (q.0, q.1, dvd_trans q.0 q.2 w.1)

        itself : ¬ Proper n → PrimeOf n
        itself none = (n, record { above = l; only = λ c. between n c l none }, dvd_refl n)

-- Coprime numbers: no number but 1 divides both
abbrev pub Coprime : ℕ → ℕ → Type 0
Coprime a b = (c : ℕ) → c ∣ a → c ∣ b → c ≡ 1

pub coprime_swap : {a b : ℕ} → Coprime a b → Coprime b a
coprime_swap h c x y = h c y x

-- what is coprime to a and divides a b divides b
pub coprime_divides : (x a b : ℕ) → Coprime x a → x ∣ a * b → x ∣ b
coprime_divides x a b h d =
    rw (unit, mul-one) at (gcd_greatest w.1 b x (dvd-mul_left x b) (rw mul_comm at d))
  where
    w : (g : ℕ) × Gcd x a g
    w = gcd_of x a

    unit : w.0 ≡ 1
    unit = h w.0 (gcd_divides w.1).0 (gcd_divides w.1).1

-- a common factor above 1, as shareFactor looks for it
abbrev Common : ℕ → ℕ → Type 0
Common a b = Some a (λ c. ((1 < c) × (c ∣ a)) × (c ∣ b))

coprime_none : (a b : ℕ) → 0 < a → ¬ Common a b → Coprime a b
coprime_none a b l none c x y = go (ℕ_discrete c 1)
  where
    pos : 0 < c
    pos = pos_of_dvd_of_pos x l

    go : Dec (c ≡ 1) → c ≡ 1
    go (yes e) = e
    go (no n) = absurd (none (c, pos, le_of_dvd l x, ((omega (arith, pos), x), y)))

none_coprime : (a b : ℕ) → Coprime a b → ¬ Common a b
none_coprime a b h s = omega (arith, s.3.0.0, h s.0 s.3.0.1 s.3.1)

pub test_coprime : (a b : ℕ) → 0 < a → Tests (not (share_factor a b)) (Coprime a b)
unfolding share_factor
test_coprime a b l =
    reads (test_not (test_some a (λ c. test_and (test_and (test_lt 1 c) (test_divides c a)) (test_divides c b))))
    (coprime_none a b l) (none_coprime a b)

pub prime_coprime : {p : ℕ} (a : ℕ) → Prime p → ¬ (p ∣ a) → Coprime p a
prime_coprime a P n c x y = ⊎_elim (λ e. e) (λ e. absurd (n (rw e at y))) (P.only c x)

-- Euclid's lemma
pub euclid : {p : ℕ} (a b : ℕ) → Prime p → p ∣ a * b → (p ∣ a) ⊎ (p ∣ b)
euclid {p} a b P d = go (dec_dvd p a)
  where
    go : Dec (p ∣ a) → (p ∣ a) ⊎ (p ∣ b)
    go (yes h) = inl h
    go (no n) = inr (coprime_divides p a b (prime_coprime a P n) d)

-- a divisor of n p that is no multiple of p divides n
pub divides-without : {p : ℕ} (n d : ℕ) → Prime p → ¬ (p ∣ d) → d ∣ n * p → d ∣ n
divides-without {p} n d P no-p h =
    coprime_divides d p n (coprime_swap (prime_coprime d P no-p)) (rw (mul_comm n p) at h)

-- a prime that divides a prime is that prime
pub prime_same : {p q : ℕ} → Prime p → Prime q → p ∣ q → p ≡ q
prime_same {p} P Q d = ⊎_elim (λ e. omega (arith, P.above)) (λ e. e) (Q.only p d)

-- 2 is a prime, and the others are odd
pub prime_two : Prime 2
unfolding is_prime some_to divides
prime_two = (test_prime 2).shows refl

pub two_or_odd : {p : ℕ} → Prime p → (p ≡ 2) ⊎ (p ≡ 2 * (p / 2) + 1)
two_or_odd {p} P = go (ℕ_discrete (p % 2) 0)
  where
    go : Dec (p % 2 ≡ 0) → (p ≡ 2) ⊎ (p ≡ 2 * (p / 2) + 1)
    go (yes e) = ⊎_elim (λ x. absurd (omega arith)) (λ x. inl (sym x)) (P.only 2 (dvd_of_mod-eq-zero 2 e))
    go (no n) = inr (omega arith)

-- a quotient divides, and is above 0
pub quotient-divides : (d n : ℕ) → d ∣ n → n / d ∣ n
quotient-divides d n h = rw (div-mul_cancel d h) at (dvd-mul_right (n / d) d)

pub quotient-pos : (d n : ℕ) → 0 < n → d ∣ n → 0 < n / d
quotient-pos d n l h = pos_of_dvd_of_pos (quotient-divides d n h) l

-- induction from n to n p: every number above 0 is 1 or is made so
pub by-primes :
    (P : ℕ → Type 0) → P 1 → ((n p : ℕ) → 0 < n → Prime p → P n → P (n * p)) → (n : ℕ) → 0 < n → P n
by-primes P one more = strong (λ n. 0 < n → P n) step
  where
    step : (n : ℕ) → ((m : ℕ) → m < n → 0 < m → P m) → 0 < n → P n
    step n ih l = ⊎_elim (λ e. rw e at one) larger (eq-or-lt_of_le l)
      where
        larger : 1 < n → P n
        larger a =
            let (p, pp, d) = prime_divisor n a in
            let pos : 0 < n / p = quotient-pos p n l d in
            rw (div-mul_cancel p d) at (more (n / p) p pos pp (ih (n / p) (div-lt_self l pp.above) pos))

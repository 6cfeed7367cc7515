-- n above 1 is prime exactly where phi(n) = n - 1: with n = q p for a prime p, phi(n) is at most p phi(q), and phi(q)
-- is below q where q is above 1.
use Rattle.std.specs.Prelude.{ℕ, ◌+◌, ◌*◌, ◌-◌, ◌/◌, ◌≤◌, ◌<◌, ◌≡◌, ◌↔◌}
use Rattle.std.specs.Int.{◌∣◌}
use Rattle.std.proofs.Common.{sym, ap, ◌∙◌, ⊎_elim, one-mul, mul_comm, mul-le-mul_left, mul-suc, eq-or-lt_of_le, arith}
use Rattle.std.proofs.Math.Nat.{div-mul_cancel, eq-one_of_dvd-one}
use Rattle.std.proofs.Math.Decide.{dec_dvd}
use Rattle.definitions.specs.Numbers.{phi}
use Rattle.numbers.specs.Primes.{Prime, prime_divisor, quotient-pos}
use Rattle.numbers.specs.Phi.{phi-old, phi_new, phi-times, phi-one, phi-lt}

prime_has : (n : ℕ) → Prime n → phi n + 1 ≡ n
prime_has n P =
    omega (
      arith,
      P.above,
      ap phi (one-mul n),
      phi-times 1 n P (λ d. omega (arith, P.above, eq-one_of_dvd-one d)),
      ap (λ x. x * (n - 1)) phi-one,
      one-mul (n - 1),
    )

times-le : (q p : ℕ) → Prime p → phi (q * p) ≤ p * phi q
times-le q p P = go (dec_dvd p q)
  where
    go : Dec (p ∣ q) → phi (q * p) ≤ p * phi q
    go (yes d) = omega (arith, phi-old q p P d)
    go (no d) = omega (arith, phi_new q p P d)

-- so a product has at least p less
composite : (q p : ℕ) → 1 < q → Prime p → phi (q * p) + p ≤ q * p
composite q p l P = omega (arith, times-le q p P, mul-le-mul_left p (phi-lt q l), mul-suc p (phi q), mul_comm p q)

pub prime_phi : (n : ℕ) → 1 < n → (phi n + 1 ≡ n) ↔ Prime n
prime_phi n l = (has_prime, prime_has n)
  where
    has_prime : phi n + 1 ≡ n → Prime n
    has_prime e =
        let (p, P, d) = prime_divisor n l in
        let whole : n / p * p ≡ n = div-mul_cancel p d in
        ⊎_elim
        (λ one. rw (sym (one-mul p) ∙ ap (λ q. q * p) one ∙ whole) at P)
        (λ more. absurd (omega (arith, P.above, composite (n / p) p more P, whole, ap phi whole)))
        (eq-or-lt_of_le (quotient-pos p n (omega arith) d))

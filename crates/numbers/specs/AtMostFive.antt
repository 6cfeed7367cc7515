-- Up to 65,535 no number has six odd primes: the product of j different odd numbers above 1 is at least 3 · 5 · .. · (2
-- j + 1), and 3 · 5 · 7 · 9 · 11 · 13 is 135,135.
use Rattle.std.specs.Prelude.{ℕ, zero, suc, ◌+◌, ◌*◌, ◌-◌, ◌%◌, ◌≤◌, ◌<◌, ◌≡◌, refl, Bool, true, ◌≢◌}
use Rattle.std.specs.Int.{◌∣◌}
use Rattle.std.proofs.Common.{⊎_elim, mul-le-mul, le-mul_of_pos_right, le_trans, le_refl, add-zero, add-suc, add-one, arith}
use Rattle.std.proofs.Math.Nat.{le_of_dvd}
use Rattle.std.proofs.Math.Decide.{dec_le}
use Rattle.definitions.specs.Numbers.{count_to, product_of_to, odd_prime_of, r_of, k_of}
use Rattle.numbers.specs.Tests.{either}
use Rattle.numbers.specs.Primes.{Prime, two_or_odd}
use Rattle.numbers.specs.Counts.{count-zero, count_yes, count_no}
use Rattle.numbers.specs.Products.{by-picks}
use Rattle.numbers.specs.Apart.{test_odd_prime, r-divides}

-- the product of the first j odd numbers above 1
odds : ℕ → ℕ
odds zero = 1
odds (suc j) = odds j * (2 * j + 3)

odds_up : (i j : ℕ) → odds i ≤ odds (i + j)
unfolding odds
odds_up i zero = rw (add-zero i) (le_refl (odds i))
odds_up i (suc j) = rw (add-suc i j) (le_trans (odds_up i j) (le-mul_of_pos_right (odds (i + j)) (omega arith)))

module _ (q : ℕ → Bool) (odd : (x : ℕ) → q x ≡ true → (x % 2 ≡ 1) × (1 < x)) where
  -- at most every second number above 1 is picked
  half_at_most : (k : ℕ) → 2 * count_to (suc k) q ≤ k
  half_at_most zero =
      ⊎_elim (λ e. omega (arith, odd 1 e)) (λ e. omega (arith, count_no q 0 e, count-zero q)) (either (q 1))
  half_at_most (suc k) =
      ⊎_elim (λ e. omega (arith, odd (suc (suc k)) e, count_yes q (suc k) e, half_at_most k))
      (λ e. omega (arith, count_no q (suc k) e, half_at_most k)) (either (q (suc (suc k))))

  room : (k : ℕ) → q (suc k) ≡ true → 2 * count_to k q + 3 ≤ suc k
  room zero e = omega (arith, odd 1 e)
  room (suc k) e = omega (arith, odd (suc (suc k)) e, half_at_most k)

  odds_least : (k : ℕ) → odds (count_to k q) ≤ product_of_to k q
  unfolding odds
  odds_least =
      by-picks q (λ k a. odds (count_to k q) ≤ a) (rw (count-zero q) (le_refl 1))
      (λ k e ih. rw (count_yes q k e, add-one) (mul-le-mul ih (room k e))) (λ k e ih. rw (count_no q k e) ih)

odd_prime_odd : (n x : ℕ) → odd_prime_of n x ≡ true → (x % 2 ≡ 1) × (1 < x)
odd_prime_odd n x e =
    let h : (Prime x × (x ∣ n)) × (x ≢ 2) = (test_odd_prime n x).shows e in
    ⊎_elim (λ y. absurd (h.1 y)) (λ y. omega (arith, h.0.0.above)) (two_or_odd h.0.0)

six : odds 6 ≡ 135135
unfolding odds
six = refl

pub k_at_most_5 : (n : ℕ) → n ≤ 65535 → k_of n ≤ 5
unfolding k_of r_of
k_at_most_5 zero l = omega (arith, count-zero (odd_prime_of 0))
k_at_most_5 (suc n) l = go (dec_le (k_of (suc n)) 5)
  where
    go : Dec (k_of (suc n) ≤ 5) → k_of (suc n) ≤ 5
    go (yes h) = h
    go (no h) =
        let j : ℕ = k_of (suc n) - 6 in
        let whole : 6 + j ≡ k_of (suc n) = omega arith in
        omega (
          arith,
          six,
          rw whole at (odds_up 6 j),
          odds_least (odd_prime_of (suc n)) (odd_prime_odd (suc n)) (suc n),
          le_of_dvd (omega arith) (r-divides (suc n)),
        )

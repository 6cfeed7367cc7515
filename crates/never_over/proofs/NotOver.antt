-- No step of any index is OVER under a working limit from `promised_at` on (`not-over-at`), and so from `promised` on
-- (`not-over`): up to four odd primes by the closed bound, at the least prime p of r, whose k-th power is at most r
-- (`four_not-over`); for five by what the checker found (`five_not-over`); and where r is 1 there are no steps.
use Rattle.std.specs.Prelude.{ℕ, zero, suc, ◌-◌, ◌^◌, ◌<◌, ◌≤◌, ◌≡◌, refl, Bool, true, false, List, ◌∷◌, eqb, length}
use Rattle.std.specs.Int.{◌∣◌}
use Rattle.std.proofs.Common.{sym, ◌∙◌, ap, ⊎_elim, le_trans, mul-le-mul_left, mul-le-mul_right, eq-or-lt_of_le, arith}
use Rattle.std.proofs.Math.Nat.{pow-le-pow_left, le_of_dvd, dvd-mul_left}
use Rattle.definitions.specs.Numbers.{list_to, divisors_below, r_of, k_of}
use Rattle.definitions.specs.Steps.{largest}
use Rattle.definitions.specs.Requests.{divisors_due, over_among}
use Rattle.numbers.specs.Primes.{Prime}
use Rattle.numbers.specs.Apart.{OddSquarefree, r_odd_squarefree, r-divides}
use Rattle.numbers.specs.HowMany.{k_of-r}
use Rattle.numbers.specs.AtMostFive.{k_at_most_5}
use Rattle.numbers.specs.PrimeLists.{product_of_list, Rising, none, more, rising_k, least_power, in_primes}
use Rattle.step_laws.specs.Tests.{by_order}
use Rattle.never_over.specs.Promised.{promised_of, promised_at, promised}
use Rattle.never_over.specs.Stops.{Held, never_over}
use Rattle.never_over.specs.FourPrimes.{reach, held_to_reach}
use Rattle.never_over.proofs.FivePrimes.{held_five}

-- ---- up to four primes
-- the least prime of r: its k-th power is no larger than r
least_prime : (r : ℕ) → OddSquarefree r → 1 < r → (p : ℕ) × Prime p × (p ∣ r) × (1 ≤ k_of r) × (p ^ k_of r ≤ r)
unfolding product_of_list
least_prime r O above = let (ps, R, e) = in_primes r O in go R e
  where
    go : {ps : List ℕ} → Rising 2 ps → product_of_list ps ≡ r
        → (p : ℕ) × Prime p × (p ∣ r) × (1 ≤ k_of r) × (p ^ k_of r ≤ r)
    go none e = absurd (omega arith)
    go (more {p} {ps} P l R) e =
        let k : k_of r ≡ length (p ∷ ps) = ap k_of (sym e) ∙ rising_k (omega arith) (more P l R) in
        let whole : suc (p - 1) ≡ p = omega arith in (
          p,
          P,
          rw (sym e) (dvd-mul_left p (product_of_list ps)),
          omega (arith, k),
          rw (k, sym e) (rw whole at (least_power (more {low = p - 1} P (omega arith) R))),
        )

root : (q k p : ℕ) → 65535 < suc q ^ k → p ^ k ≤ 65535 → p ≤ q
root q k p big h = by_order q p (λ l. absurd (omega (arith, pow-le-pow_left {n = suc q} {m = p} l k))) (λ l. l)

-- the closed bound is within the promise
reach-promised : (first : Bool) (k p r : ℕ) → 1 ≤ k → k ≤ 4 → p ^ k ≤ 65535 → reach first k p r ≤ promised_at first k r
unfolding reach promised_at promised_of
reach-promised first zero p r l u least = absurd (omega arith)
reach-promised true (suc zero) p r l u least = omega arith
reach-promised false (suc zero) p r l u least = omega arith
reach-promised true (suc (suc zero)) p r l u least = omega (arith, root 255 2 p (omega arith) least)
reach-promised false (suc (suc zero)) p r l u least = omega arith
reach-promised true (suc (suc (suc zero))) p r l u least = omega arith
reach-promised false (suc (suc (suc zero))) p r l u least =
    mul-le-mul_right r (mul-le-mul_left 16 (root 40 3 p (omega arith) least))
reach-promised true (suc (suc (suc (suc zero)))) p r l u least =
    mul-le-mul_right (r ^ 3) (mul-le-mul_left 128 (root 15 4 p (omega arith) least))
reach-promised false (suc (suc (suc (suc zero)))) p r l u least = omega arith
reach-promised first (suc (suc (suc (suc (suc k))))) p r l u least = absurd (omega arith)

-- the promise at r is within that at the largest
at_largest : (first : Bool) (k r : ℕ) → r ≤ 65535 → promised_at first k r ≤ promised first k
unfolding promised promised_at promised_of
at_largest true zero r small = omega arith
at_largest false zero r small = omega arith
at_largest true (suc zero) r small = omega arith
at_largest false (suc zero) r small = omega arith
at_largest true (suc (suc zero)) r small = omega arith
at_largest false (suc (suc zero)) r small = omega arith
at_largest true (suc (suc (suc zero))) r small = omega arith
at_largest false (suc (suc (suc zero))) r small = omega arith
at_largest true (suc (suc (suc (suc zero)))) r small = omega (arith, pow-le-pow_left small 3)
at_largest false (suc (suc (suc (suc zero)))) r small = omega (arith, pow-le-pow_left small 3)
at_largest true (suc (suc (suc (suc (suc k))))) r small = omega arith
at_largest false (suc (suc (suc (suc (suc k))))) r small = omega arith

-- and of five primes it is the same at every r
of_five : (first : Bool) (r : ℕ) → promised first 5 ≤ promised_at first 5 r
unfolding promised promised_at promised_of
of_five true r = omega arith
of_five false r = omega arith

module _ (kind r : ℕ) (O : OddSquarefree r) (small : r ≤ 65535)
    (w : ℕ) (enough : promised_at (eqb kind 1) (k_of r) r ≤ w)
  where
    from_held : {v : ℕ} → v ≤ w → Held v kind r → (j : ℕ) → j ≤ divisors_due r → over_among w kind r j ≡ false
    from_held v h = never_over kind r O.pos w (λ m l i u. le_trans (h m l i u) v)

    pub four_not-over : 1 < r → k_of r ≤ 4 → (j : ℕ) → j ≤ divisors_due r → over_among w kind r j ≡ false
    four_not-over above few =
        let (p, P, in-r, some, least) = least_prime r O above in
        from_held
        (le_trans (reach-promised (eqb kind 1) (k_of r) p r some few (le_trans least small)) enough)
        (held_to_reach kind r O above few p P in-r)

    -- ---- five
    pub five_not-over : k_of r ≡ 5 → (j : ℕ) → j ≤ divisors_due r → over_among w kind r j ≡ false
    five_not-over five =
        from_held (le_trans (of_five (eqb kind 1) r) (rw five at enough)) (held_five r O five small kind)

-- ---- every index
one-not-over : (kind w j : ℕ) → j ≤ divisors_due 1 → over_among w kind 1 j ≡ false
unfolding divisors_due divisors_below list_to over_among
one-not-over kind w zero l = refl
one-not-over kind w (suc j) l = absurd (omega arith)

pub not-over-at :
    (kind n : ℕ) → 0 < n → n ≤ 65535 → (w : ℕ) → promised_at (eqb kind 1) (k_of n) (r_of n) ≤ w
    → (j : ℕ) → j ≤ divisors_due (r_of n) → over_among w kind (r_of n) j ≡ false
not-over-at kind n pos small w enough =
    ⊎_elim (λ (e : 1 ≡ r_of n). rw (sym e) (one-not-over kind w))
    (λ above. ⊎_elim (λ five. five_not-over kind (r_of n) O below w enough' five)
    (λ few. four_not-over kind (r_of n) O below w enough' above (omega arith))
    (eq-or-lt_of_le (rw (k_of-r n pos) (k_at_most_5 n small)))) (eq-or-lt_of_le O.pos)
  where
    O : OddSquarefree (r_of n)
    O = r_odd_squarefree n

    below : r_of n ≤ 65535
    below = le_trans (le_of_dvd pos (r-divides n)) small

    enough' : promised_at (eqb kind 1) (k_of (r_of n)) (r_of n) ≤ w
    enough' = rw (k_of-r n pos) enough

pub not-over :
    (kind n : ℕ) → 0 < n → n ≤ 65535 → (w : ℕ) → promised (eqb kind 1) (k_of n) ≤ w
    → (j : ℕ) → j ≤ divisors_due (r_of n) → over_among w kind (r_of n) j ≡ false
not-over kind n pos small w enough =
    not-over-at kind n pos small w
    (le_trans (at_largest (eqb kind 1) (k_of n) (r_of n) (le_trans (le_of_dvd pos (r-divides n)) small)) enough)

-- the largest working limit is above every promise
both_fit : (k : ℕ) → (promised true k ≤ largest) × (promised false k ≤ largest)
unfolding promised promised_at promised_of
both_fit zero = omega arith
both_fit (suc zero) = omega arith
both_fit (suc (suc zero)) = omega arith
both_fit (suc (suc (suc zero))) = omega arith
both_fit (suc (suc (suc (suc zero)))) = omega arith
both_fit (suc (suc (suc (suc (suc zero))))) = omega arith
both_fit (suc (suc (suc (suc (suc (suc k)))))) = omega arith

pub promised_fits : (first : Bool) (k : ℕ) → promised first k ≤ largest
promised_fits true k = (both_fit k).0
promised_fits false k = (both_fit k).1

-- An odd squarefree number is the product of an ascending list of odd primes: each prime more is put in its place. Such
-- a list tells that the product is odd and squarefree, its k, its phi, and how large it is at least.
use Rattle.std.specs.Prelude.{ℕ, suc, ◌*◌, ◌-◌, ◌^◌, ◌≤◌, ◌<◌, ◌≡◌, refl, ◌≢◌, List, [], ◌∷◌, length}
use Rattle.std.specs.Int.{◌∣◌}
use Rattle.std.proofs.Common.{ap, ◌∙◌, ⊎_elim, mul-le-mul, mul_right_comm, pow-suc, le_trans, le_refl, mul-pos, arith}
use Rattle.std.proofs.Math.Nat.{pow-zero, dvd-mul_left, dvd-mul_right_of_dvd, pow-le-pow_left}
use Rattle.std.proofs.Math.Decide.{dec_lt}
use Rattle.definitions.specs.Numbers.{phi, k_of}
use Rattle.numbers.specs.Primes.{Prime, prime_pos, prime_same, euclid}
use Rattle.numbers.specs.Phi.{phi-times, phi-one}
use Rattle.numbers.specs.Products.{prime_not-one}
use Rattle.numbers.specs.Apart.{OddSquarefree, odd_squarefree_one, odd_squarefree_times, by-odd-primes}
use Rattle.numbers.specs.HowMany.{k_times, k_one}

-- the product, and phi of it; the first prime is the last factor, as in the inductions from r to r p
unfoldable pub product_of_list : List ℕ → ℕ
product_of_list [] = 1
product_of_list (p ∷ ps) = product_of_list ps * p

unfoldable pub phi_of_list : List ℕ → ℕ
phi_of_list [] = 1
phi_of_list (p ∷ ps) = phi_of_list ps * (p - 1)

-- primes, ascending, all above low
pub data Rising : ℕ → List ℕ → Type 0 where
  none : {low : ℕ} → Rising low []
  more : {low p : ℕ} {ps : List ℕ} → Prime p → low < p → Rising p ps → Rising low (p ∷ ps)

pub rising_pos : {low : ℕ} {ps : List ℕ} → Rising low ps → 0 < product_of_list ps
unfolding product_of_list
rising_pos none = omega arith
rising_pos (more P l R) = mul-pos (rising_pos R) (prime_pos P)

-- a prime up to low is none of them
pub rising_new : {low p : ℕ} {ps : List ℕ} → Prime p → p ≤ low → Rising low ps → ¬ (p ∣ product_of_list ps)
unfolding product_of_list
rising_new P u none d = prime_not-one P d
rising_new P u (more {p = q} {ps} Q l R) d =
    ⊎_elim (rising_new P (omega arith) R) (λ e. omega (arith, prime_same P Q e)) (euclid (product_of_list ps) q P d)

pub rising_odd_squarefree : {low : ℕ} {ps : List ℕ} → 2 ≤ low → Rising low ps → OddSquarefree (product_of_list ps)
unfolding product_of_list
rising_odd_squarefree u none = odd_squarefree_one
rising_odd_squarefree u (more {p} {ps} P l R) =
    odd_squarefree_times (product_of_list ps) p (rising_odd_squarefree (omega arith) R) P (omega arith)
    (rising_new P (le_refl p) R)

pub rising_k : {low : ℕ} {ps : List ℕ} → 2 ≤ low → Rising low ps → k_of (product_of_list ps) ≡ length ps
unfolding product_of_list
rising_k u none = k_one
rising_k u (more {p} {ps} P l R) =
    omega (
      arith,
      rising_k (omega arith) R,
      k_times (product_of_list ps) p (rising_pos R) P (omega arith) (rising_new P (le_refl p) R),
    )

pub rising_phi : {low : ℕ} {ps : List ℕ} → Rising low ps → phi (product_of_list ps) ≡ phi_of_list ps
unfolding product_of_list phi_of_list
rising_phi none = phi-one
rising_phi (more {p} {ps} P l R) =
    phi-times (product_of_list ps) p P (rising_new P (le_refl p) R) ∙ ap (λ x. x * (p - 1)) (rising_phi R)

-- every prime is at least low + 1
pub least_power : {low : ℕ} {ps : List ℕ} → Rising low ps → suc low ^ length ps ≤ product_of_list ps
unfolding product_of_list
least_power {low} none = rw (pow-zero (suc low)) (le_refl 1)
least_power {low} (more {p} {ps} P l R) =
    rw (pow-suc (suc low) (length ps))
    (mul-le-mul (le_trans (pow-le-pow_left (omega arith) (length ps)) (least_power R)) l)

abbrev InPrimes : ℕ → ℕ → Type 0
InPrimes low r = (ps : List ℕ) × Rising low ps × (product_of_list ps ≡ r)

-- a new prime finds its place in the list
insert :
    {low p : ℕ} {ps : List ℕ}
    → Prime p
    → low < p
    → ¬ (p ∣ product_of_list ps)
    → Rising low ps
    → InPrimes low (product_of_list ps * p)
unfolding product_of_list
insert {p} P l n none = (p ∷ [], more P l none, refl)
insert {low} {p} P l n (more {p = q} {ps} Q u R) =
    go (dec_lt p q) (λ v. insert P v (λ d. n (dvd-mul_right_of_dvd p d q)) R)
  where
    other : p ≢ q
    other e = n (rw e (dvd-mul_left q (product_of_list ps)))

    go : Dec (p < q) → (q < p → InPrimes q (product_of_list ps * p)) → InPrimes low (product_of_list ps * q * p)
    go (yes h) further = (p ∷ (q ∷ ps), more P l (more Q h R), refl)
    go (no h) further =
        let (qs, S, e) = further (omega (arith, other)) in
        (q ∷ qs, more Q u S, rw e (mul_right_comm (product_of_list ps) p q))

pub in_primes : (r : ℕ) → OddSquarefree r → (ps : List ℕ) × Rising 2 ps × (product_of_list ps ≡ r)
unfolding product_of_list
in_primes =
    by-odd-primes (InPrimes 2) ([], none, refl)
    (λ r p O P u n (ps, R, e). rw e at (insert P (omega (arith, P.above)) (rw e n) R))

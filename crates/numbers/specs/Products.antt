-- The product of distinct primes: the primes of 1, .., k that a test picks. Its primes are those picked, it has no
-- square of a prime in it, and it divides whatever each of them divides.
use Rattle.std.specs.Prelude.{ℕ, zero, suc, ◌*◌, ◌/◌, ◌≤◌, ◌<◌, ◌≡◌, refl, Bool, true, false, cond}
use Rattle.std.specs.Int.{◌∣◌}
use Rattle.std.proofs.Common.{sym, ⊎_elim, mul-one, mul-pos, arith}
use Rattle.std.proofs.Math.Nat.{one-dvd, eq-one_of_dvd-one, dvd_trans, dvd-mul_left, dvd-mul_right, dvd-mul_right_of_dvd, dvd_of_mul-dvd-mul_right, mul-dvd-mul_left, mul-div_cancel', le-suc_iff}
use Rattle.std.proofs.Math.Decide.{ℕ_discrete}
use Rattle.definitions.specs.Numbers.{product_of_to}
use Rattle.numbers.specs.Tests.{not_both}
use Rattle.numbers.specs.Primes.{Prime, prime_pos, prime_same, euclid, divides-without}

-- no prime's square divides it
abbrev pub Squarefree : ℕ → Type 0
Squarefree a = (p : ℕ) → Prime p → ¬ (p * p ∣ a)

pub prime_not-one : {p : ℕ} → Prime p → ¬ (p ∣ 1)
prime_not-one P d = omega (arith, eq-one_of_dvd-one d, P.above)

-- times one prime more, which does not divide it yet
pub squarefree_times : (a x : ℕ) → Squarefree a → Prime x → ¬ (x ∣ a) → Squarefree (a * x)
squarefree_times a x s X n p P d = go (ℕ_discrete x p)
  where
    go : Dec (x ≡ p) → ⊥
    go (yes e) = n (dvd_of_mul-dvd-mul_right x (prime_pos X) (rw (sym e) at d))
    go (no u) = s p P
        (divides-without a (p * p) X (λ h. u (prime_same X P (⊎_elim (λ y. y) (λ y. y) (euclid p p X h)))) d)

pub times-divides : {x : ℕ} (a n : ℕ) → Prime x → a ∣ n → x ∣ n → ¬ (x ∣ a) → a * x ∣ n
times-divides {x} a n X d e u =
    let whole : a * (n / a) ≡ n = mul-div_cancel' a d in
    rw whole at (mul-dvd-mul_left x a (⊎_elim (λ h. absurd (u h)) (λ h. h) (euclid a (n / a) X (rw (sym whole) at e))))

-- induction on k: suc k is picked, and multiplies, or is not
pub by-picks :
    (q : ℕ → Bool) (C : ℕ → ℕ → Type 0)
    → C 0 1
    → ((k : ℕ) → q (suc k) ≡ true → C k (product_of_to k q) → C (suc k) (product_of_to k q * suc k))
    → ((k : ℕ) → q (suc k) ≡ false → C k (product_of_to k q) → C (suc k) (product_of_to k q))
    → (k : ℕ)
    → C k (product_of_to k q)
unfolding product_of_to
by-picks q C z y n zero = z
by-picks q C z y n (suc k) = go (q (suc k)) refl (by-picks q C z y n k)
  where
    go : (b : Bool) → q (suc k) ≡ b → C k (product_of_to k q) → C (suc k) (product_of_to k q * cond b (suc k) 1)
    go true e h = y k e h
    go false e h = rw (mul-one (product_of_to k q)) (n k e h)

module _ (q : ℕ → Bool) (primes : (x : ℕ) → q x ≡ true → Prime x) where
  -- its primes are those picked
  pub prime_in_product : (k : ℕ) (p : ℕ) → Prime p → p ∣ product_of_to k q → (p ≤ k) × (q p ≡ true)
  prime_in_product k p P =
      by-picks q (λ j a. p ∣ a → (p ≤ j) × (q p ≡ true)) (λ d. absurd (prime_not-one P d))
      (λ j e ih d. ⊎_elim (λ h. wider j (ih h)) (λ h. here j e h) (euclid (product_of_to j q) (suc j) P d))
      (λ j e ih d. wider j (ih d)) k
    where
      wider : (j : ℕ) → (p ≤ j) × (q p ≡ true) → (p ≤ suc j) × (q p ≡ true)
      wider j h = (omega (arith, h.0), h.1)

      here : (j : ℕ) → q (suc j) ≡ true → p ∣ suc j → (p ≤ suc j) × (q p ≡ true)
      here j e h = let same : p ≡ suc j = prime_same P (primes (suc j) e) h in (omega arith, rw same e)

  pub picked_in_product : (k c : ℕ) → c ≤ k → q c ≡ true → c ∣ product_of_to k q
  picked_in_product k c u e =
      by-picks q (λ j a. c ≤ j → c ∣ a) (λ l. absurd (omega (arith, (primes c e).above)))
      (λ j y ih l. ⊎_elim (λ v. dvd-mul_right_of_dvd c (ih v) (suc j))
      (λ v. rw v (dvd-mul_left (suc j) (product_of_to j q))) (le-suc_iff.0 l))
      (λ j n ih l. ⊎_elim ih (λ v. absurd (not_both e (rw v n))) (le-suc_iff.0 l)) k u

  pub product-pos : (k : ℕ) → 0 < product_of_to k q
  product-pos = by-picks q (λ j a. 0 < a) (omega arith) (λ j e ih. mul-pos ih (omega arith)) (λ j e ih. ih)

  new_factor : (k : ℕ) → q (suc k) ≡ true → ¬ (suc k ∣ product_of_to k q)
  new_factor k e d = omega (arith, (prime_in_product k (suc k) (primes (suc k) e) d).0)

  pub product_squarefree : (k : ℕ) → Squarefree (product_of_to k q)
  product_squarefree =
      by-picks q (λ j a. Squarefree a) (λ p P d. prime_not-one P (dvd_trans p (dvd-mul_right p p) d))
      (λ j e ih. squarefree_times (product_of_to j q) (suc j) ih (primes (suc j) e) (new_factor j e)) (λ j e ih. ih)

  pub product-divides : (n : ℕ) → ((x : ℕ) → q x ≡ true → x ∣ n) → (k : ℕ) → product_of_to k q ∣ n
  product-divides n each =
      by-picks q (λ j a. a ∣ n) (one-dvd n)
      (λ j e ih. times-divides (product_of_to j q) n (primes (suc j) e) ih (each (suc j) e) (new_factor j e))
      (λ j e ih. ih)

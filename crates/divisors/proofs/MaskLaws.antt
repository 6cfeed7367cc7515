-- Every divisor of p(0) p(1) .. p(k - 1), different primes, has a mask; the complement of a mask names the rest; and a
-- mask has a one for each prime of what it names.
use Prim.Native.Nat.{ℕ, zero, suc, ◌+◌, ◌*◌, ◌-◌, ◌/◌, ◌%◌, ◌^◌, ◌≤◌, ◌<◌, ◌∣◌}
use mathlib.Core.Path.{◌≡◌, refl, sym, ap, ap₂, ◌∙◌}
use mathlib.Core.Bool.{cond}
use mathlib.Core.List.{List}
use mathlib.Core.Logic.{◌⊎◌, inl, inr, ⊎_elim}
use native.Mathlib.Nat.{mul-one, add_comm, mul-pos, add-div_left, mul_assoc, mul_right_comm, one-mul, pow-suc}
use native.Mathlib.Nat.{div-eq_of_lt, div-mul_cancel, mul-add-div_right, mul-add-mod_self_right, dvd_trans}
use native.Mathlib.Nat.{dvd-mul_right, dvd_of_mul-dvd-mul_right, eq-one_of_dvd-one, pos_of_dvd_of_pos}
use native.Mathlib.Nat.{div-eq_of_eq-mul_right, mod-eq_of_lt}
use native.Mathlib.Decide.{dec_dvd, dec_lt}
use native.Mathlib.Omega.{arith}
use lib.Dec.{eqb}
use lib.ListN.{get_or}
use lib.Pow.{pow_pos, pow-add}
use lib.Bits.{bit_xor, bit_and, xor_comm, xor_add_and, and_mask}
use lib.Count.{ones, ones_cat}
use Rattle.definitions.specs.Numbers.{primes_of, mu_is_plus}
use Rattle.numbers.specs.Primes.{Prime, prime_pos, divides-without}
use Rattle.numbers.specs.HowMany.{primes-times, primes-one}
use Rattle.definitions.specs.Numbers.{row_to}
use Rattle.divisors.specs.Masks.{bit, mask_to}

-- the complement formed by a mask: what full has and m has not
pub mask_xor : (k m : ℕ) → m < 2 ^ k → bit_xor (2 ^ k - 1) m ≡ 2 ^ k - 1 - m
mask_xor k m u =
    let all : bit_and m (2 ^ k - 1) ≡ m = and_mask m k ∙ mod-eq_of_lt u in
    xor_comm (2 ^ k - 1) m ∙ omega (arith, xor_add_and m (2 ^ k - 1), all)

module _ (l : List ℕ) where
  pub mask_suc : (m i : ℕ) → mask_to l m (suc i) ≡ mask_to l m i * cond (eqb (bit m i) 1) (get_or l i 0) 1
  unfolding mask_to
  mask_suc m i = refl

  -- a mask below 2^i has no bit i
  pub mask_off : (m i : ℕ) → m < 2 ^ i → mask_to l m (suc i) ≡ mask_to l m i
  mask_off m i u =
      mask_suc m i
      ∙ (ap (λ b. mask_to l m i * cond (eqb (b % 2) 1) (get_or l i 0) 1) (div-eq_of_lt u) ∙ mul-one (mask_to l m i))

  -- 2^i more sets bit i and no bit below
  high_bit : (m i j : ℕ) → j < i → bit (2 ^ i + m) j ≡ bit m j
  high_bit m i j u =
      ap (λ x. (x + m) / 2 ^ j % 2) parts
      ∙ (ap (λ x. x % 2) (mul-add-div_right (pow_pos j) (2 ^ (i - suc j) * 2) m)
      ∙ mul-add-mod_self_right (2 ^ (i - suc j)) 2 (m / 2 ^ j))
    where
      parts : 2 ^ i ≡ 2 ^ (i - suc j) * 2 * 2 ^ j
      parts =
          ap (λ x. 2 ^ x) (omega arith) ∙ (pow-add 2 (suc (i - suc j)) j ∙ ap (λ x. x * 2 ^ j) (pow-suc 2 (i - suc j)))

  mask_high : (m i j : ℕ) → j ≤ i → mask_to l (2 ^ i + m) j ≡ mask_to l m j
  unfolding mask_to
  mask_high m i zero u = refl
  mask_high m i (suc j) u =
      ap₂ (λ x b. x * cond (eqb b 1) (get_or l j 0) 1) (mask_high m i j (omega arith)) (high_bit m i j u)

  mask_on : (m i : ℕ) → m < 2 ^ i → mask_to l (2 ^ i + m) (suc i) ≡ mask_to l m i * get_or l i 0
  mask_on m i u =
      mask_suc (2 ^ i + m) i
      ∙ ap₂ (λ x b. x * cond (eqb (b % 2) 1) (get_or l i 0) 1) (mask_high m i i (omega arith)) top
    where
      top : (2 ^ i + m) / 2 ^ i ≡ 1
      top = add-div_left m (pow_pos i) ∙ ap (λ x. x + 1) (div-eq_of_lt u)

  -- by the top bit
  by_top : (m i : ℕ) → m < 2 ^ suc i → (m < 2 ^ i) ⊎ ((h : ℕ) × (h < 2 ^ i) × (m ≡ 2 ^ i + h))
  by_top m i u = go (dec_lt m (2 ^ i))
    where
      go : Dec (m < 2 ^ i) → (m < 2 ^ i) ⊎ ((h : ℕ) × (h < 2 ^ i) × (m ≡ 2 ^ i + h))
      go (yes h) = inl h
      go (no h) = inr (m - 2 ^ i, omega arith, omega arith)

  pub mask_complement : (i m : ℕ) → m < 2 ^ i → mask_to l m i * mask_to l (2 ^ i - 1 - m) i ≡ row_to l i
  unfolding row_to mask_to
  mask_complement zero m u = refl
  mask_complement (suc i) m u =
      ⊎_elim (λ h. low i m h (mask_complement i m h))
      (λ h. high i m h.0 h.1 h.2 (mask_complement i h.0 h.1)) (by_top m i u)
    where
      whole : ℕ → ℕ → Type 0
      whole j x = mask_to l x j * mask_to l (2 ^ j - 1 - x) j ≡ row_to l j

      low : (j x : ℕ) → x < 2 ^ j → whole j x → whole (suc j) x
      low j x h ih =
          ap₂ ◌*◌ (mask_off x j h)
          (ap (λ c. mask_to l c (suc j)) (omega arith) ∙ mask_on (2 ^ j - 1 - x) j (omega arith))
          ∙ (sym (mul_assoc (mask_to l x j) (mask_to l (2 ^ j - 1 - x) j) (get_or l j 0)) ∙ ap (λ y. y * get_or l j 0) ih)

      high : (j x h : ℕ) → h < 2 ^ j → x ≡ 2 ^ j + h → whole j h → whole (suc j) x
      high j x h v e ih =
          ap₂ ◌*◌ (ap (λ c. mask_to l c (suc j)) e ∙ mask_on h j v)
          (ap (λ c. mask_to l c (suc j)) (omega arith) ∙ mask_off (2 ^ j - 1 - h) j (omega arith))
          ∙ (mul_right_comm (mask_to l h j) (get_or l j 0) (mask_to l (2 ^ j - 1 - h) j) ∙ ap (λ y. y * get_or l j 0) ih)

  pub mask_divides : (i m : ℕ) → m < 2 ^ i → mask_to l m i ∣ row_to l i
  mask_divides i m u = rw (mask_complement i m u) at (dvd-mul_right (mask_to l m i) (mask_to l (2 ^ i - 1 - m) i))

  -- the first k are primes, each of them new
  module _ (k : ℕ) (new : (i : ℕ) → i < k → Prime (get_or l i 0) × (¬ (get_or l i 0 ∣ row_to l i))) where
    pub row-pos : (i : ℕ) → i ≤ k → 0 < row_to l i
    unfolding row_to
    row-pos zero u = omega arith
    row-pos (suc i) u = mul-pos (row-pos i (omega arith)) (prime_pos (new i u).0)

    -- every divisor has a mask
    pub divisor_mask : (i d : ℕ) → i ≤ k → d ∣ row_to l i → (m : ℕ) × (m < 2 ^ i) × (mask_to l m i ≡ d)
    unfolding row_to mask_to
    divisor_mask zero d u h = (0, omega arith, sym (eq-one_of_dvd-one h))
    divisor_mask (suc i) d u h = go (dec_dvd (get_or l i 0) d) (λ x w. divisor_mask i x (omega arith) w)
      where
        P : Prime (get_or l i 0)
        P = (new i u).0

        go :
            Dec (get_or l i 0 ∣ d)
            → ((x : ℕ) → x ∣ row_to l i → (m : ℕ) × (m < 2 ^ i) × (mask_to l m i ≡ x))
            → (m : ℕ) × (m < 2 ^ suc i) × (mask_to l m (suc i) ≡ d)
        go (yes y) ih =
            let w : (m : ℕ) × (m < 2 ^ i) × (mask_to l m i ≡ d / get_or l i 0) =
            ih (d / get_or l i 0)
            (dvd_of_mul-dvd-mul_right (d / get_or l i 0) (prime_pos P) (rw (div-mul_cancel (get_or l i 0) y) h)) in (
              2 ^ i + w.0,
              omega (arith, w.1),
              mask_on w.0 i w.1
                  ∙ (ap (λ x. x * get_or l i 0) w.2 ∙ div-mul_cancel (get_or l i 0) y),
            )
        go (no y) ih =
            let w : (m : ℕ) × (m < 2 ^ i) × (mask_to l m i ≡ d) = ih d (divides-without (row_to l i) d P y h) in
            (w.0, omega (arith, w.1), mask_off w.0 i w.1 ∙ w.2)

    -- a one for each prime
    pub mask_primes : (i m : ℕ) → i ≤ k → m < 2 ^ i → primes_of (mask_to l m i) ≡ ones m
    unfolding mask_to ones
    mask_primes zero m u v = let none : 0 ≡ m = omega arith in primes-one ∙ ap ones none
    mask_primes (suc i) m u v =
        ⊎_elim (λ h. ap primes_of (mask_off m i h) ∙ mask_primes i m (omega arith) h)
        (λ h. one_more i m h.0 u h.1 h.2 (mask_primes i h.0 (omega arith) h.1)) (by_top m i v)
      where
        one_more :
            (j x h : ℕ) → suc j ≤ k → h < 2 ^ j → x ≡ 2 ^ j + h → primes_of (mask_to l h j) ≡ ones h
            → primes_of (mask_to l x (suc j)) ≡ ones x
        one_more j x h a w e ih =
            let part : mask_to l h j ∣ row_to l j = mask_divides j h w in
            ap primes_of (ap (λ c. mask_to l c (suc j)) e ∙ mask_on h j w)
            ∙ (primes-times (mask_to l h j) (get_or l j 0) (pos_of_dvd_of_pos part (row-pos j (omega arith))) (new j a).0
            (λ d. (new j a).1 (dvd_trans (get_or l j 0) d part))
            ∙ (ap (λ y. y + 1) ih
            ∙ sym (ap ones (e ∙ ap (λ y. y + h) (sym (one-mul (2 ^ j))))
            ∙ (ones_cat j 1 h w ∙ add_comm 1 (ones h)))))

    -- so mu of the rest is told by the ones of the complement
    pub mask_mu : (m : ℕ) → m < 2 ^ k → mu_is_plus (row_to l k / mask_to l m k) ≡ eqb (ones (2 ^ k - 1 - m) % 2) 0
    unfolding mu_is_plus
    mask_mu m u =
        ap (λ q. eqb (q % 2) 0)
        (ap primes_of
        (div-eq_of_eq-mul_right (pos_of_dvd_of_pos (mask_divides k m u) (row-pos k (omega arith)))
        (sym (mask_complement k m u)))
        ∙ mask_primes k (2 ^ k - 1 - m) (omega arith) (omega arith))

-- What the gain is, for every index (`gains`). The gain is the polynomial at z = 1, so it goes by the laws of
-- series/AtOne: for an old prime p, F(np) is F(n) with z^p for z and the gain stays; for a new one F(np) F(n) is that,
-- so the gain of F(np) is 1 where that of F(n) is not 0; and F(p) = 1 + z + .. + z^(p-1) has gain p. F(n) I(n), which
-- is z^n - 1, has gain 0.
use Rattle.std.specs.Prelude.{ℕ, zero, suc, ◌*◌, ◌^◌, ◌<◌, ◌≡◌, refl, ◌≢◌, ◌⊎◌, [], ◌∷◌, ℤ, pos}
use Rattle.std.specs.Int.{◌∣◌}
use Rattle.std.proofs.Common.{sym, ◌∙◌, ap, inl, inr, ⊎_elim, arith, ne_eqb}
use Rattle.std.proofs.Math.Nat as NatL
use Rattle.std.proofs.Math.Decide.{ℕ_discrete, dec_dvd}
use Rattle.definitions.specs.Integers.{◌⊕◌, ◌⊗◌, ⊖, 0ℤ, 1ℤ}
use Rattle.definitions.specs.Series.{Series, 𝟙, ◌+ˢ◌, _ˢ, ◌·◌, z^, spread}
use Rattle.definitions.specs.Numbers.{m_of, t_of}
use Rattle.definitions.specs.Polynomials.{z^_1, F, I, polynomial, degree}
use Rattle.definitions.specs.Answer.{coefficients, gain}
use Rattle.integers.specs.Solver.{:0, :1, ◌:+◌, ◌:*◌, :-, x, y}
use Rattle.integers.specs.Whole.{zero_⊕, ringℤ, no_divisors, 1≢0}
use Rattle.series.specs.Laws.{ringˢ, cancel}
use Rattle.series.specs.Degree.{Poly}
use Rattle.series.specs.AtOne.{AtOne, at_one, at_one-constant, at_one-mul, at_one-spread, only, powers}
use Rattle.numbers.specs.Primes.{Prime, prime_pos, prime_same, by-primes, euclid}
use Rattle.numbers.specs.Apart.{m-pos, t_pos, m-above, m_squarefree}
use Rattle.cyclotomic.specs.Family.{F-one, unit_F, pair_law}
use Rattle.cyclotomic.specs.OnePrime.{prime_old, prime_new, spread-z^_1}
use Rattle.cyclotomic.specs.Degrees.{monic}
use Rattle.cyclotomic.specs.Apart.{I-one, taken_apart_lem}

-- n is a power of the prime p: p, p p, p p p, ..
pub record PowerOfPrime (n p : ℕ) : Type 0 where
  pub prime : Prime p
  pub exponent : ℕ
  pub above : 0 < exponent
  pub power : n ≡ p ^ exponent

-- the gains of F (kind 1) and of I (kind 2)
pub record Gains : Type 0 where
  pub F_at_one : gain 1 1 ≡ pos 0
  pub F_at_powers : (n p : ℕ) → PowerOfPrime n p → gain 1 n ≡ pos p
  pub F_elsewhere : (n : ℕ) → 1 < n → ((p : ℕ) → ¬ PowerOfPrime n p) → gain 1 n ≡ pos 1
  pub I_at_one : gain 2 1 ≡ pos 1
  pub I_elsewhere : (n : ℕ) → 1 < n → gain 2 n ≡ pos 0

-- ---- the gain is the polynomial at 1
pub gain_at_one : (kind n : ℕ) → 0 < n → AtOne (polynomial kind n) (gain kind n)
unfolding gain coefficients
gain_at_one kind n l = at_one (suc (degree kind n)) (polynomial kind n) (monic kind n l).above

gain_is : (kind n : ℕ) (a : ℤ) → 0 < n → AtOne (polynomial kind n) a → gain kind n ≡ a
gain_is kind n a l h = only (polynomial kind n) (gain kind n) a (gain_at_one kind n l) h

-- z^n - 1 is (z - 1) g, with g n at 1
multiple : (n : ℕ) → (g : Series) × Poly g × AtOne g (pos n) × (z^_1 n ≡ z^_1 1 · g)
unfolding z^_1
multiple n =
    let (g, p, s, e) = powers 1 n in (
      g,
      p,
      s,
      ap (λ f. f +ˢ _ˢ 𝟙) (ap z^ (sym (NatL.one-mul n)) ∙ e)
          ∙ ringˢ ((z^ 1 +ˢ _ˢ 𝟙) ∷ g ∷ []) (:1 :+ x :* y :+ :- :1) (x :* y) refl,
    )

none_at_one : (n : ℕ) → AtOne (z^_1 n) 0ℤ
none_at_one n =
    let (g, p, s, e) = multiple n in (g, p, e ∙ ringˢ (z^_1 1 ∷ g ∷ []) (x :* y) (:0 :+ x :* y) refl)

-- ---- one prime more
module _ (n p : ℕ) (l : 0 < n) (P : Prime p) where
  spreads : AtOne (spread p (F n)) (gain 1 n)
  unfolding polynomial
  spreads = at_one-spread p (prime_pos P) (F n) (gain 1 n) (gain_at_one 1 n l)

  times-pos : 0 < n * p
  times-pos = NatL.mul-pos l (prime_pos P)

  old : p ∣ n → gain 1 (n * p) ≡ gain 1 n
  unfolding polynomial
  old d = gain_is 1 (n * p) (gain 1 n) times-pos (rw (prime_old p P n l d) spreads)

  new : ¬ (p ∣ n) → gain 1 (n * p) ⊗ gain 1 n ≡ gain 1 n
  unfolding polynomial
  new d =
      only (spread p (F n)) (gain 1 (n * p) ⊗ gain 1 n) (gain 1 n)
      (rw (prime_new p P n l d) at
      (at_one-mul (F (n * p)) (F n) (gain 1 (n * p)) (gain 1 n) (gain_at_one 1 (n * p) times-pos) (gain_at_one 1 n l)))
      spreads

  new_one : ¬ (p ∣ n) → gain 1 n ≢ 0ℤ → gain 1 (n * p) ≡ 1ℤ
  new_one d u =
      let G = gain 1 n in
      let H = gain 1 (n * p) in
      ringℤ (H ∷ []) x (x :+ :- :1 :+ :1) refl
      ∙ ap (λ a. a ⊕ 1ℤ)
      (no_divisors G (H ⊕ ⊖ 1ℤ) u
      (ringℤ (G ∷ H ∷ []) (x :* (y :+ :- :1)) (y :* x :+ :- x) refl ∙ ap (λ a. a ⊕ ⊖ G) (new d)
      ∙ ringℤ (G ∷ []) (x :+ :- x) :0 refl))
      ∙ zero_⊕ 1ℤ

-- ---- F at 1, at a prime and at its powers
at_one-F : gain 1 1 ≡ pos 0
unfolding polynomial
at_one-F = gain_is 1 1 0ℤ (omega arith) (rw F-one (none_at_one 1))

prime_product : (p : ℕ) → Prime p → F p · F 1 ≡ z^_1 p
prime_product p P =
    rw (NatL.one-mul p) at
    (prime_new p P 1 (omega arith) (λ d. omega (arith, P.above, NatL.eq-one_of_dvd-one d)) ∙ ap (spread p) F-one
    ∙ spread-z^_1 p (prime_pos P) 1)

at_prime : (p : ℕ) → Prime p → gain 1 p ≡ pos p
unfolding polynomial
at_prime p P =
    let (g, q, s, e) = multiple p in
    gain_is 1 p (pos p) (prime_pos P)
    (rw
    (cancel (F p) g (F 1) (unit_F 1)
    (prime_product p P ∙ e ∙ ringˢ (z^_1 1 ∷ g ∷ []) (x :* y) (y :* x) refl ∙ ap (λ f. g · f) (sym F-one)))
    s)

first : (p : ℕ) → p ^ 1 ≡ p
first p = NatL.pow-suc p 0 ∙ ap (λ k. k * p) (NatL.pow-zero p) ∙ NatL.one-mul p

at_power : (p k : ℕ) → Prime p → gain 1 (p ^ suc k) ≡ pos p
at_power p zero P = ap (gain 1) (first p) ∙ at_prime p P
at_power p (suc k) P =
    ap (gain 1) (NatL.pow-suc p (suc k))
    ∙ old (p ^ suc k) p (NatL.one-le-pow (suc k) p (prime_pos P)) P
    (rw (NatL.pow-suc p k) (NatL.dvd-mul_left p (p ^ k)))
    ∙ at_power p k P

F-power : (n p : ℕ) → PowerOfPrime n p → gain 1 n ≡ pos p
F-power n p w = go w.exponent w.above w.power
  where
    go : (k : ℕ) → 0 < k → n ≡ p ^ k → gain 1 n ≡ pos p
    go zero l e = absurd (NatL.not-suc-le-zero l)
    go (suc k) l e = ap (gain 1) e ∙ at_power p k w.prime

-- ---- F elsewhere
prime_in_power : (p q k : ℕ) → Prime p → Prime q → p ∣ q ^ k → p ≡ q
prime_in_power p q zero P Q d =
    absurd (omega (arith, P.above, NatL.eq-one_of_dvd-one (rw (NatL.pow-zero q) at d)))
prime_in_power p q (suc k) P Q d =
    ⊎_elim (prime_in_power p q k P Q) (prime_same P Q) (euclid (q ^ k) q P (rw (NatL.pow-suc q k) at d))

next_power : (n p : ℕ) → PowerOfPrime n p → PowerOfPrime (n * p) p
next_power n p w =
    record {
      prime = w.prime;
      exponent = suc w.exponent;
      above = omega arith;
      power = ap (λ k. k * p) w.power
          ∙ sym (NatL.pow-suc p w.exponent);
    }

first-power : (p : ℕ) → Prime p → PowerOfPrime p p
first-power p P = record { prime = P; exponent = 1; above = omega arith; power = sym (first p) }

not_none : (p : ℕ) → Prime p → pos p ≢ 0ℤ
not_none p P e = let z : p ≡ 0 = cc in omega (arith, P.above)

abbrev Known : ℕ → Type 0
Known n = (n ≡ 1) ⊎ (((p : ℕ) × PowerOfPrime n p) ⊎ (gain 1 n ≡ 1ℤ))

known : (n : ℕ) → 0 < n → Known n
known = by-primes Known (inl refl) next
  where
    next : (n p : ℕ) → 0 < n → Prime p → Known n → Known (n * p)
    next n p l P (inl e) = inr (inl (p, rw (e, NatL.one-mul p) (first-power p P)))
    next n p l P (inr (inl (q, w))) = go (ℕ_discrete p q)
      where
        go : Dec (p ≡ q) → Known (n * p)
        go (yes e) = inr (inl (q, rw e (next_power n q w)))
        go (no u) =
            inr (inr (new_one n p l P (λ d. u (prime_in_power p q w.exponent P w.prime (rw w.power at d)))
            (λ e. not_none q w.prime (sym (F-power n q w) ∙ e))))
    next n p l P (inr (inr e)) = go (dec_dvd p n)
      where
        go : Dec (p ∣ n) → Known (n * p)
        go (yes d) = inr (inr (old n p l P d ∙ e))
        go (no d) = inr (inr (new_one n p l P d (λ z. 1≢0 (sym e ∙ z))))

F-other : (n : ℕ) → 1 < n → ((p : ℕ) → ¬ PowerOfPrime n p) → gain 1 n ≡ pos 1
F-other n l none = go (known n (omega arith))
  where
    go : Known n → gain 1 n ≡ pos 1
    go (inl e) = absurd (omega arith)
    go (inr (inl (p, w))) = absurd (none p w)
    go (inr (inr e)) = e

-- ---- I
F-not_none : (n : ℕ) → 1 < n → gain 1 n ≢ 0ℤ
F-not_none n l = go (known n (omega arith))
  where
    go : Known n → gain 1 n ≢ 0ℤ
    go (inl e) z = absurd (omega arith)
    go (inr (inl (p, w))) z = not_none p w.prime (sym (F-power n p w) ∙ z)
    go (inr (inr e)) z = 1≢0 (sym e ∙ z)

I-other : (n : ℕ) → 1 < n → gain 2 n ≡ pos 0
unfolding polynomial
I-other n l =
    no_divisors (gain 1 n) (gain 2 n) (F-not_none n l)
    (only (z^_1 n) (gain 1 n ⊗ gain 2 n) 0ℤ
    (rw (pair_law n) at
    (at_one-mul (F n) (I n) (gain 1 n) (gain 2 n) (gain_at_one 1 n (omega arith)) (gain_at_one 2 n (omega arith))))
    (none_at_one n))

pub gains : Gains
unfolding polynomial
gains =
    record {
      F_at_one = at_one-F;
      F_at_powers = F-power;
      F_elsewhere = F-other;
      I_at_one = gain_is 2 1 1ℤ (omega arith) (rw I-one (at_one-constant 1ℤ));
      I_elsewhere = I-other;
    }

-- ---- from n taken apart: the gain for n is that for m, which has no prime twice, so it is a power of a prime only
-- where it is that prime
pub gain-m : (kind n : ℕ) → 0 < n → gain kind n ≡ gain kind (m_of n)
gain-m kind n l =
    gain_is kind n (gain kind (m_of n)) l
    (rw (taken_apart_lem kind n l)
    (at_one-spread (t_of n) (t_pos n l) (polynomial kind (m_of n)) (gain kind (m_of n))
    (gain_at_one kind (m_of n) (m-pos n l))))

no_power : (n : ℕ) → ¬ Prime (m_of n) → (p : ℕ) → ¬ PowerOfPrime (m_of n) p
no_power n not p w = go w.exponent w.above w.power
  where
    go : (k : ℕ) → 0 < k → m_of n ≡ p ^ k → ⊥
    go zero l e = absurd (NatL.not-suc-le-zero l)
    go (suc zero) l e = not (rw (e, first p) w.prime)
    go (suc (suc k)) l e =
        m_squarefree n p w.prime
        (rw (e, NatL.pow-suc p (suc k), NatL.pow-suc p k, NatL.mul_assoc (p ^ k) p p)
        (NatL.dvd-mul_left (p * p) (p ^ k)))

pub gain_prime : (n : ℕ) → 0 < n → Prime (m_of n) → gain 1 n ≡ pos (m_of n)
gain_prime n l P = gain-m 1 n l ∙ F-power (m_of n) (m_of n) (first-power (m_of n) P)

pub gain_composite : (n : ℕ) → 1 < n → ¬ Prime (m_of n) → gain 1 n ≡ pos 1
gain_composite n l not = gain-m 1 n (omega arith) ∙ F-other (m_of n) (m-above n l) (no_power n not)

-- a kind is F where it is 1, and else I
pub gain_else : (kind n : ℕ) → kind ≢ 1 → gain kind n ≡ gain 2 n
unfolding gain coefficients degree polynomial
gain_else kind n u = rw (ne_eqb kind 1 u) refl

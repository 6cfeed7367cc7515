-- How a polynomial is made from that of r (docs/RULES.md, 'How n is taken apart'): F(1), F(2), I(1), I(2) as printed;
-- for odd squarefree r > 1, F(2r) is F(r) with -z for z and I(2r) is I(r), so negated, times 1 - z^r, the two copies
-- never overlapping; and F(n), I(n) are those of m with z^t for z.
use Rattle.std.specs.Prelude.{ℕ, ◌+◌, ◌*◌, ◌%◌, ◌≤◌, ◌<◌, ◌≡◌, refl, Bool, true, false, cond, ◌≢◌, [], ◌∷◌, eqb}
use Rattle.std.specs.Int.{◌∣◌}
use Rattle.std.proofs.Math.Path.{sym, ap}
use Rattle.std.proofs.Common.{◌∙◌, ap₂}
use native.Mathlib.Omega.{arith}
use Rattle.std.proofs.Math.Nat as NatL
use Rattle.definitions.specs.Integers.{◌⊕◌, ⊖, ◌⊝◌, 0ℤ, 1ℤ}
use Rattle.definitions.specs.Series.{Series, 𝟙, ◌+ˢ◌, _ˢ, ◌·◌, z^, spread, alternate}
use Rattle.definitions.specs.Numbers.{m_of, t_of}
use Rattle.definitions.specs.Polynomials.{z^_1, F, I, polynomial}
use Rattle.integers.specs.Solver.{:1, ◌:+◌, ◌:*◌, :-, x, y, z, w}
use Rattle.integers.specs.Whole.{⊕_zero, zero_⊕, ⊖-zero}
use Rattle.series.specs.Laws.{Unitˢ, at_+ˢ, at__ˢ, cancel, ·_one, ringˢ}
use Rattle.series.specs.Maps.{z^-add, shift_below, shift_at, spread-mul, spread-zero, spread-one, spread-spread}
use Rattle.series.specs.Maps.{alternate-mul, alternate-add, alternate-neg, alternate-constant, alternate-z^_odd}
use Rattle.series.specs.Maps.{alternate-none, alternate-spread}
use Rattle.numbers.specs.Primes.{Prime, prime_pos, prime_two, prime_same}
use Rattle.numbers.specs.Phi.{phi-pos}
use Rattle.numbers.specs.Apart.{OddSquarefree, by-odd-primes, by-repeats, m-times_t, prime_m}
use Rattle.cyclotomic.specs.Family.{F-one, unit_F, pair_law, only_inverse}
use Rattle.cyclotomic.specs.OnePrime.{prime_old, prime_new, spread-z^_1}
use Rattle.cyclotomic.specs.Degrees.{monic_I}
use Rattle.cyclotomic.specs.Signs.{Signed, signed, unsigned, minus_one, sign-step}

-- ---- 1 and 2
double : (n : ℕ) → z^_1 (n + n) ≡ (z^ n +ˢ 𝟙) · z^_1 n
unfolding z^_1
double n = ap (λ q. q +ˢ _ˢ 𝟙) (sym (z^-add n n)) ∙ ringˢ (z^ n ∷ []) (x :* x :+ :- :1) ((x :+ :1) :* (x :+ :- :1)) refl

pub I-one : I 1 ≡ 𝟙
I-one = sym (only_inverse 1 𝟙 (·_one (F 1) ∙ F-one))

pub F_two : F 2 ≡ z^ 1 +ˢ 𝟙
F_two =
    cancel (F 2) (z^ 1 +ˢ 𝟙) (F 1) (unit_F 1)
    (prime_new 2 prime_two 1 (omega arith) (λ d. omega (arith, NatL.eq-one_of_dvd-one d)) ∙ ap (spread 2) F-one
    ∙ spread-z^_1 2 (omega arith) 1
    ∙ double 1 ∙ ap (λ q. (z^ 1 +ˢ 𝟙) · q) (sym F-one))

pub I_two : I 2 ≡ z^_1 1
I_two = sym (only_inverse 2 (z^_1 1) (ap (λ q. q · z^_1 1) F_two ∙ sym (double 1)))

-- ---- odd r above 1
odd : (r : ℕ) → ¬ (2 ∣ r) → r % 2 ≡ 1
odd r h = let n : r % 2 ≢ 0 = λ e. h (NatL.dvd_of_mod-eq-zero 2 e) in omega arith

alternate-z^_1 : (n : ℕ) → n % 2 ≡ 1 → alternate (z^_1 n) ≡ _ˢ (z^ n +ˢ 𝟙)
unfolding z^_1
alternate-z^_1 n o =
    alternate-add (z^ n) (_ˢ 𝟙) ∙ ap₂ ◌+ˢ◌ (alternate-z^_odd n o) (alternate-neg 𝟙 ∙ ap _ˢ (alternate-constant 1ℤ))
    ∙ ringˢ (z^ n ∷ []) (:- x :+ :- :1) (:- (x :+ :1)) refl

-- F(r) at z and at -z together are F(r) at z^2, up to the sign at r = 1
sign-alternate : (r : ℕ) → OddSquarefree r → Signed r (alternate (F r) · F r) (spread 2 (F r))
sign-alternate = by-odd-primes (λ r. Signed r (alternate (F r) · F r) (spread 2 (F r))) first next
  where
    first : Signed 1 (alternate (F 1) · F 1) (spread 2 (F 1))
    first =
        minus_one
        (ap (λ q. alternate q · q) F-one ∙ ap (λ q. q · z^_1 1) (alternate-z^_1 1 refl)
        ∙ ringˢ ((z^ 1 +ˢ 𝟙) ∷ z^_1 1 ∷ []) (:- x :* y) (:- (x :* y)) refl
        ∙ ap _ˢ (sym (double 1) ∙ sym (spread-z^_1 2 (omega arith) 1) ∙ ap (spread 2) (sym F-one)))

    next : (r p : ℕ) → OddSquarefree r → Prime p → p ≢ 2 → ¬ (p ∣ r) → Signed r (alternate (F r) · F r) (spread 2 (F r))
        → Signed (r * p) (alternate (F (r * p)) · F (r * p)) (spread 2 (F (r * p)))
    next r p O P u d s =
        signed
        (sign-step r p l (alternate (F r) · F r) (alternate (F (r * p)) · F (r * p)) (spread 2 (F r))
        (spread 2 (F (r * p)))
        (unit_spread (F r) (unit_F r)) left right s)
      where
        l : 0 < p
        l = prime_pos P

        new : F (r * p) · F r ≡ spread p (F r)
        new = prime_new p P r O.pos d

        odd_p : p % 2 ≡ 1
        odd_p = odd p (λ e. u (sym (prime_same prime_two P e)))

        unit_spread : (f : Series) → Unitˢ f → Unitˢ (spread 2 f)
        unit_spread f v = ap (λ a. Rattle.definitions.specs.Integers.◌⊗◌ a a) (spread-zero 2 (omega arith) f) ∙ v

        left : alternate (F (r * p)) · F (r * p) · (alternate (F r) · F r) ≡ spread p (alternate (F r) · F r)
        left =
            ringˢ (alternate (F (r * p)) ∷ F (r * p) ∷ alternate (F r) ∷ F r ∷ []) (x :* y :* (z :* w))
            (x :* z :* (y :* w)) refl
            ∙ ap₂ ◌·◌ (sym (alternate-mul (F (r * p)) (F r)) ∙ ap alternate new ∙ sym (alternate-spread p odd_p (F r)))
            new
            ∙ sym (spread-mul p l (alternate (F r)) (F r))

        right : spread 2 (F (r * p)) · spread 2 (F r) ≡ spread p (spread 2 (F r))
        right =
            sym (spread-mul 2 (omega arith) (F (r * p)) (F r)) ∙ ap (spread 2) new
            ∙ spread-spread 2 p (omega arith) l (F r)
            ∙ ap (λ t. spread t (F r)) (NatL.mul_comm p 2) ∙ sym (spread-spread p 2 l (omega arith) (F r))

-- F(2r) is F(r) with the coefficients at odd degrees negated
pub F_twice : (r : ℕ) → OddSquarefree r → r ≢ 1 → F (2 * r) ≡ alternate (F r)
F_twice r O h =
    ap F (NatL.mul_comm 2 r)
    ∙ cancel (F (r * 2)) (alternate (F r)) (F r) (unit_F r) (prime_new 2 prime_two r O.pos O.odd
    ∙ sym (unsigned (sign-alternate r O) h))

-- I(2r) is I(r), so negated, times 1 - z^r
pub I_twice : (r : ℕ) → OddSquarefree r → r ≢ 1 → I (2 * r) ≡ alternate (I r) · (𝟙 +ˢ _ˢ (z^ r))
unfolding z^_1
I_twice r O h =
    sym
    (only_inverse (2 * r) (alternate (I r) · (𝟙 +ˢ _ˢ (z^ r)))
    (ap (λ q. q · (alternate (I r) · (𝟙 +ˢ _ˢ (z^ r)))) (F_twice r O h)
    ∙ ringˢ (alternate (F r) ∷ alternate (I r) ∷ z^ r ∷ []) (x :* (y :* (:1 :+ :- z))) (x :* y :* (:1 :+ :- z)) refl
    ∙ ap (λ q. q · (𝟙 +ˢ _ˢ (z^ r))) (sym (alternate-mul (F r) (I r)) ∙ ap alternate (pair_law r)
    ∙ alternate-z^_1 r (odd r O.odd))
    ∙ ringˢ (z^ r ∷ []) (:- (x :+ :1) :* (:1 :+ :- x)) ((x :+ :1) :* (x :+ :- :1)) refl
    ∙ sym (double r) ∙ ap z^_1 (sym (NatL.two-mul r))))

-- the two copies never overlap: I(r) ends below degree r, so the first copy stands below r and the second, negated,
-- from r on
pub copies_apart : (r : ℕ) → 0 < r → (i : ℕ) → r ≤ i → I r i ≡ 0ℤ
copies_apart r l i h = (monic_I r l).above i (omega (arith, phi-pos r l))

copies : (r i : ℕ) (f : Series) → (f · (𝟙 +ˢ _ˢ (z^ r))) i ≡ f i ⊝ (z^ r · f) i
copies r i f =
    ap (λ q. q i) (ringˢ (f ∷ z^ r ∷ []) (x :* (:1 :+ :- y)) (x :+ :- (y :* x)) refl)
    ∙ at_+ˢ f (_ˢ (z^ r · f)) i ∙ ap (λ a. f i ⊕ a) (at__ˢ (z^ r · f) i)

pub first_copy : (r : ℕ) → OddSquarefree r → r ≢ 1 → (i : ℕ) → i < r → I (2 * r) i ≡ alternate (I r) i
first_copy r O h i l =
    ap (λ q. q i) (I_twice r O h) ∙ copies r i (alternate (I r))
    ∙ ap (λ a. alternate (I r) i ⊝ a) (shift_below r (alternate (I r)) i l) ∙ ap (λ a. alternate (I r) i ⊕ a) ⊖-zero
    ∙ ⊕_zero (alternate (I r) i)

pub second_copy : (r : ℕ) → OddSquarefree r → r ≢ 1 → (i : ℕ) → I (2 * r) (r + i) ≡ ⊖ (alternate (I r) i)
second_copy r O h i =
    ap (λ q. q (r + i)) (I_twice r O h) ∙ copies r (r + i) (alternate (I r))
    ∙ ap₂ ◌⊝◌ (alternate-none (r + i) (I r) (copies_apart r O.pos (r + i) (omega arith)))
    (shift_at r (alternate (I r)) i)
    ∙ zero_⊕ (⊖ (alternate (I r) i))

-- ---- n from m
module _ (m : ℕ) (l : 0 < m) where
  -- n is m k, and F(n) is F(m) with z^k for z
  FromM : ℕ → Type 0
  FromM n = (k : ℕ) × (0 < k) × (n ≡ m * k) × (F n ≡ spread k (F m))

  from_m : (t : ℕ) → 0 < t → ((p : ℕ) → Prime p → p ∣ t → p ∣ m) → FromM (m * t)
  unfolding FromM
  from_m =
      by-repeats FromM m l (1, omega arith, sym (NatL.mul-one m), sym (spread-one (F m)))
      (λ n p h P d (k, a, b, c). (
        k * p,
        NatL.mul-pos a (prime_pos P),
        ap (λ q. q * p) b ∙ NatL.mul_assoc m k p,
        prime_old p P n h d ∙ ap (spread p) c ∙ spread-spread p k (prime_pos P) a (F m),
      ))

  pub F-repeated : (t : ℕ) → 0 < t → ((p : ℕ) → Prime p → p ∣ t → p ∣ m) → F (m * t) ≡ spread t (F m)
  unfolding FromM
  F-repeated t h d =
      let (k, a, b, c) = from_m t h d in c ∙ ap (λ q. spread q (F m)) (sym (NatL.eq_of_mul-eq-mul_left m l t k b))

  pub I-repeated : (t : ℕ) → 0 < t → ((p : ℕ) → Prime p → p ∣ t → p ∣ m) → I (m * t) ≡ spread t (I m)
  I-repeated t h d =
      sym
      (only_inverse (m * t) (spread t (I m))
      (ap (λ q. q · spread t (I m)) (F-repeated t h d) ∙ sym (spread-mul t h (F m) (I m)) ∙ ap (spread t) (pair_law m)
      ∙ spread-z^_1 t h m))

-- F(n) and I(n) are those of m with z^t put for z
pub taken_apart_lem : (kind n : ℕ) → 0 < n → polynomial kind n ≡ spread (t_of n) (polynomial kind (m_of n))
unfolding polynomial
taken_apart_lem kind n l = go (eqb kind 1)
  where
    product : m_of n * t_of n ≡ n
    product = m-times_t n

    positive : (a b : ℕ) → a * b ≡ n → 0 < a
    positive a b e = NatL.pos_of_ne-zero (λ z. omega (arith, ap (λ s. s * b) z, NatL.zero-mul b))

    m⁺ : 0 < m_of n
    m⁺ = positive (m_of n) (t_of n) product

    t⁺ : 0 < t_of n
    t⁺ = positive (t_of n) (m_of n) (NatL.mul_comm (t_of n) (m_of n) ∙ product)

    repeats : (p : ℕ) → Prime p → p ∣ t_of n → p ∣ m_of n
    repeats p P d = prime_m n l p P (rw product at (NatL.dvd-mul_left_of_dvd p d (m_of n)))

    go : (b : Bool) → cond b (F n) (I n) ≡ spread (t_of n) (cond b (F (m_of n)) (I (m_of n)))
    go true = ap F (sym product) ∙ F-repeated (m_of n) m⁺ (t_of n) t⁺ repeats
    go false = ap I (sym product) ∙ I-repeated (m_of n) m⁺ (t_of n) t⁺ repeats

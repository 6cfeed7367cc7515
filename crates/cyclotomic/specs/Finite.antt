-- Each F(n) is a polynomial. With q coprime to n, F(n) with z^q for z is a polynomial multiple of F(n) (`multiple` in
-- `Good`); at a new prime that multiple is F(np), so one induction gives both. It needs no division of polynomials: let
-- J be the product of F(d) over the divisors d below n, so F(n) J = z^n - 1 =: m, and let q q' = 1 + n c. By induction
-- J(z^q') = J K, and putting z^q for z, J(z^q) K(z^q) = J(z^(q q')) = J + m Y, since z^(q q') is z modulo m. Times
-- F(n)(z^q): F(n)(z^q) J = m(z^q) K(z^q) - m Y F(n)(z^q) = m X = F(n) J X, and J is a unit.
use Prim.Native.Nat.{ℕ, zero, suc, ◌+◌, ◌*◌, ◌≤◌, ◌<◌, ◌∣◌, ◌/◌}
use Rattle.std.specs.Prelude.{◌≡◌, Bool, true, false, cond, [], ◌∷◌}
use Rattle.std.proofs.Math.Path.{refl, ap}
use Rattle.std.proofs.Common.{sym, ◌∙◌, ap₂, ⊎_elim, arith}
use Rattle.std.proofs.Math.Nat as NatL
use Rattle.std.proofs.Math.Decide.{dec_dvd}
use Rattle.definitions.specs.Integers.{0ℤ, 1ℤ}
use Rattle.definitions.specs.Series.{Series, tail, constant, 𝟘, 𝟙, ◌+ˢ◌, _ˢ, ◌·◌, z^, spread}
use Rattle.definitions.specs.Numbers.{divides}
use Rattle.definitions.specs.Polynomials.{product_to, at_divisors, z^_1, F, I}
use Rattle.integers.specs.Solver.{v, :0, :1, ◌:+◌, ◌:*◌, :-, x, z, w, u}
use Rattle.integers.specs.Solver.{y as y'}
use Rattle.series.specs.Laws.{Unitˢ, ·_comm, ·_one, cancel, ringˢ}
use Rattle.series.specs.Maps.{z^-add, spread-add, spread-mul, spread-constant}
use Rattle.series.specs.Maps.{spread-z^, spread-spread, head_tail}
use Rattle.series.specs.Degree.{ZeroFrom, Poly, poly_add, poly_neg, poly_mul, poly_constant, poly_z^, poly_spread}
use Rattle.series.specs.Degree.{poly_z^_1, nothing}
use Rattle.series.specs.AtOne.{powers}
use Rattle.numbers.specs.Tests.{strong, yes_divides}
use Rattle.numbers.specs.Primes.{Prime, Coprime, prime_pos, prime_divisor, prime_coprime, quotient-pos}
use Rattle.numbers.specs.Bezout.{inverse}
use Rattle.cyclotomic.specs.Family.{F-one, unit_F, unit_divisors, inverse_product, pair_law}
use Rattle.cyclotomic.specs.OnePrime.{spread-z^_1, prime_old, prime_new}

-- a polynomial that meets an equation
abbrev Some : (Series → Type 0) → Type 0
Some E = (q : Series) × Poly q × E q

-- ---- z^(n c) is 1 modulo z^n - 1
power : (n c : ℕ) → Some (λ g. z^ (n * c) ≡ 𝟙 +ˢ z^_1 n · g)
power n c = let (g, p, s, e) = powers n c in (g, p, e)

-- z^k for z changes nothing modulo z^n - 1 where k is 1 modulo n
module _ (n c k : ℕ) (e : k ≡ 1 + n * c) where
  positive : 0 < k
  positive = omega arith

  Round : Series → Type 0
  Round h = Some (λ y. spread k h ≡ h +ˢ z^_1 n · y)

  round_step : (h : Series) → Poly (tail h) → Round (tail h) → Round h
  unfolding Round
  round_step h t (y, p, q) = go (power n c)
    where
      S : Series
      S = spread k (tail h)

      m : Series
      m = z^_1 n

      go : Some (λ g. z^ (n * c) ≡ 𝟙 +ˢ m · g) → Some (λ y. spread k h ≡ h +ˢ m · y)
      go (g, pg, eg) = (
        z^ 1 · (y +ˢ g · S),
        poly_mul (z^ 1) (y +ˢ g · S) (poly_z^ 1)
            (poly_add y (g · S) p (poly_mul g S pg (poly_spread k (tail h) positive t))),
        ap (spread k) (head_tail h)
            ∙ spread-add k positive (constant (h zero)) (z^ 1 · tail h)
            ∙ ap₂ ◌+ˢ◌ (spread-constant k positive (h zero)) (spread-mul k positive (z^ 1) (tail h)
            ∙ ap (λ f. f · S) (spread-z^ k positive 1 ∙ ap z^ (NatL.one-mul k ∙ e) ∙ sym (z^-add 1 (n * c))
            ∙ ap (λ f. z^ 1 · f) eg))
            ∙ ringˢ (constant (h zero) ∷ z^ 1 ∷ m ∷ g ∷ S ∷ []) (x :+ y' :* (:1 :+ z :* w) :* u)
            (x :+ y' :* u :+ z :* (y' :* (w :* u))) refl
            ∙ ap (λ f. constant (h zero) +ˢ z^ 1 · f +ˢ m · (z^ 1 · (g · S))) q
            ∙ ringˢ (constant (h zero) ∷ z^ 1 ∷ m ∷ tail h ∷ y ∷ (g · S) ∷ [])
            (x :+ y' :* (w :+ z :* u) :+ z :* (y' :* v 5)) (x :+ y' :* w :+ z :* (y' :* (u :+ v 5))) refl
            ∙ ap (λ f. f +ˢ m · (z^ 1 · (y +ˢ g · S))) (sym (head_tail h)),
      )

  round_to : (N : ℕ) (h : Series) → ZeroFrom N h → Round h
  unfolding Round
  round_to zero h a = (
    𝟘,
    poly_constant 0ℤ,
    ap (spread k) none ∙ spread-constant k positive 0ℤ
        ∙ ringˢ (z^_1 n ∷ []) :0 (:0 :+ x :* :0) refl ∙ ap (λ q. q +ˢ z^_1 n · 𝟘) (sym none),
  )
    where
      none : h ≡ 𝟘
      none = nothing h a
  round_to (suc N) h a =
      round_step h (N, λ i l. a (suc i) (omega arith)) (round_to N (tail h) (λ i l. a (suc i) (omega arith)))

-- ---- what is to be shown of n: F(n) is a polynomial, and with z^q for z a polynomial multiple of itself
Multiple : ℕ → Series → Type 0
Multiple q f = Some (λ g. spread q f ≡ f · g)

record Good (n : ℕ) : Type 0 where
  finite : Poly (F n)
  multiple : (q : ℕ) → 0 < q → Coprime q n → Multiple q (F n)

-- multiples multiply
multiple_mul : (q : ℕ) → 0 < q → (f g : Series) → Multiple q f → Multiple q g → Multiple q (f · g)
unfolding Multiple
multiple_mul q l f g (a, pa, ea) (b, pb, eb) = (
  a · b,
  poly_mul a b pa pb,
  spread-mul q l f g ∙ ap₂ ◌·◌ ea eb ∙ ringˢ (f ∷ a ∷ g ∷ b ∷ []) (x :* y' :* (z :* w)) (x :* z :* (y' :* w)) refl,
)

multiple_one : (q : ℕ) → 0 < q → Multiple q 𝟙
unfolding Multiple
multiple_one q l = (𝟙, poly_constant 1ℤ, spread-constant q l 1ℤ ∙ sym (·_one 𝟙))

-- a property of 1 and of products holds of the product over the divisors where it holds at each
module _ (E : Series → Type 0) (one : E 𝟙) (mul : (f g : Series) → E f → E g → E (f · g)) (n : ℕ) where
  at_one : (d : ℕ) (b : Bool) → divides d n ≡ b → (d ∣ n → E (F d)) → E (cond b (F d) 𝟙)
  at_one d true t e = e (yes_divides d n t)
  at_one d false t e = one

  over : (k : ℕ) → ((d : ℕ) → 0 < d → d ≤ k → d ∣ n → E (F d)) → E (product_to k (at_divisors n F))
  unfolding product_to at_divisors
  over zero e = one
  over (suc k) e =
      mul (product_to k (at_divisors n F)) (at_divisors n F (suc k)) (over k (λ d l h. e d l (omega arith)))
      (at_one (suc k) (divides (suc k) n) refl (e (suc k) (omega arith) (omega arith)))

-- ---- F(n), from those below
module _ (k : ℕ) (ih : (d : ℕ) → d < suc k → 0 < d → Good d) where
  J : Series
  J = product_to k (at_divisors (suc k) F)

  poly_J : Poly J
  unfolding J
  poly_J = over Poly (poly_constant 1ℤ) (λ f g. poly_mul f g) (suc k) k (λ d l h e. (ih d (omega arith) l).finite)

  whole : F (suc k) · J ≡ z^_1 (suc k)
  unfolding J
  whole = ap (λ q. F (suc k) · q) (sym (inverse_product k)) ∙ pair_law (suc k)

  J_multiple : (q : ℕ) → 0 < q → Coprime q (suc k) → Multiple q J
  unfolding J
  J_multiple q l c =
      over (Multiple q) (multiple_one q l) (multiple_mul q l) (suc k) k
      (λ d p h e. (ih d (omega arith) p).multiple q l (λ x a b. c x a (NatL.dvd_trans x b e)))

  unit_J : Unitˢ J
  unfolding J
  unit_J = unit_divisors (suc k) F k (λ d l h. unit_F d)

  -- F(n), with z^q for z, times J is m X
  module _ (q : ℕ) (l : 0 < q) (f : Poly (F (suc k))) where
    m : Series
    m = z^_1 (suc k)

    s_f : Series
    s_f = spread q (F (suc k))

    power-q : Some (λ g. spread q m ≡ m · g)
    unfolding m z^_1
    power-q =
        let (g, p, e) = power (suc k) q in (
          g,
          p,
          spread-z^_1 q l (suc k) ∙ ap (λ s. s +ˢ _ˢ 𝟙) e
              ∙ ringˢ ((z^ (suc k) +ˢ _ˢ 𝟙) ∷ g ∷ []) (:1 :+ x :* y' :+ :- :1) (x :* y') refl,
        )

    goes :
        (a b : ℕ) → a * q ≡ 1 + suc k * b → 0 < a
        → Multiple a J → Some (λ y. spread (a * q) J ≡ J +ˢ m · y) → Some (λ g. spread q m ≡ m · g)
        → Multiple q (F (suc k))
    unfolding Multiple m s_f
    goes a b e la (K, pK, eK) (Y, pY, eY) (G, pG, eG) = (
      X,
      poly_add (G · s_k) (_ˢ (Y · s_f)) (poly_mul G s_k pG (poly_spread q K l pK))
          (poly_neg (Y · s_f) (poly_mul Y s_f pY (poly_spread q (F (suc k)) l f))),
      cancel s_f (F (suc k) · X) J unit_J times_J,
    )
      where
        s_k : Series
        s_k = spread q K

        X : Series
        X = G · s_k +ˢ _ˢ (Y · s_f)

        rounded : J +ˢ m · Y ≡ spread q J · s_k
        rounded = sym eY ∙ sym (spread-spread q a l la J) ∙ ap (spread q) eK ∙ spread-mul q l J K

        times_J : s_f · J ≡ F (suc k) · X · J
        times_J =
            ringˢ (s_f ∷ J ∷ m ∷ Y ∷ []) (x :* y') (x :* (y' :+ z :* w) :+ :- (x :* (z :* w))) refl
            ∙ ap (λ s. s_f · s +ˢ _ˢ (s_f · (m · Y))) rounded
            ∙ ringˢ (s_f ∷ spread q J ∷ s_k ∷ (s_f · (m · Y)) ∷ []) (x :* (y' :* z) :+ :- w) (x :* y' :* z :+ :- w) refl
            ∙ ap (λ s. s · s_k +ˢ _ˢ (s_f · (m · Y))) (sym (spread-mul q l (F (suc k)) J) ∙ ap (spread q) whole ∙ eG)
            ∙ ringˢ (m ∷ G ∷ s_k ∷ s_f ∷ Y ∷ []) (x :* y' :* z :+ :- (w :* (x :* u))) (x :* (y' :* z :+ :- (u :* w))) refl
            ∙ ap (λ s. s · X) (sym whole)
            ∙ ringˢ (F (suc k) ∷ J ∷ X ∷ []) (x :* y' :* z) (x :* z :* y') refl

  multiple_here : Poly (F (suc k)) → (q : ℕ) → 0 < q → Coprime q (suc k) → Multiple q (F (suc k))
  unfolding Round m
  multiple_here f q l c = by_inverse (inverse q (suc k) l c)
    where
      by_inverse : (a : ℕ) × (b : ℕ) × (q * a ≡ 1 + suc k * b) → Multiple q (F (suc k))
      by_inverse (a, b, e) =
          let turned : a * q ≡ 1 + suc k * b = NatL.mul_comm a q ∙ e in
          let la : 0 < a = NatL.pos_of_ne-zero (λ z. omega (arith, ap (λ s. q * s) z, NatL.mul-zero q)) in
          let ca : Coprime a (suc k) =
          λ d h j.
          NatL.eq-one_of_dvd-one
          ((NatL.dvd-add_iff_left d (NatL.dvd-mul_right_of_dvd d j b)).1 (rw e at (NatL.dvd-mul_left_of_dvd d h q)))
          in
          goes q l f a b turned la (J_multiple a la ca) (round_to (suc k) b (a * q) turned poly_J.0 J poly_J.1)
          (power-q q l f)

-- ---- F(n p) from F(n)
first : Poly (F 1)
first = rw F-one (poly_z^_1 1 (omega arith))

poly_next : (n p : ℕ) → 0 < n → Prime p → Good n → Poly (F (n * p))
unfolding Multiple
poly_next n p l P g = go (dec_dvd p n)
  where
    go : Dec (p ∣ n) → Poly (F (n * p))
    go (yes d) = rw (prime_old p P n l d) (poly_spread p (F n) (prime_pos P) g.finite)
    go (no d) =
        let (X, pX, eX) = g.multiple p (prime_pos P) (prime_coprime n P d) in
        rw (cancel (F (n * p)) X (F n) (unit_F n) (prime_new p P n l d ∙ eX ∙ ·_comm (F n) X)) pX

good : (n : ℕ) → 0 < n → Good n
good = strong (λ n. 0 < n → Good n) step
  where
    finite_at : (n : ℕ) → ((m : ℕ) → m < n → 0 < m → Good m) → 0 < n → Poly (F n)
    finite_at n ih l = ⊎_elim (λ e. rw e at first) larger (NatL.eq-or-lt_of_le l)
      where
        larger : 1 < n → Poly (F n)
        larger h =
            let (p, P, d) = prime_divisor n h in
            let pos : 0 < n / p = quotient-pos p n l d in
            rw (NatL.div-mul_cancel p d) at (poly_next (n / p) p pos P (ih (n / p) (NatL.div-lt_self l P.above) pos))

    step : (n : ℕ) → ((m : ℕ) → m < n → 0 < m → Good m) → 0 < n → Good n
    step zero ih l = absurd (NatL.not-suc-le-zero l)
    step (suc k) ih l =
        let f : Poly (F (suc k)) = finite_at (suc k) ih l in record { finite = f; multiple = multiple_here k ih f }

-- each F(n) is a polynomial
pub finite_F : (n : ℕ) → 0 < n → Poly (F n)
finite_F n l = (good n l).finite

-- and so is each I(n), the product of F(d) over the divisors d below n
pub finite_I : (n : ℕ) → 0 < n → Poly (I n)
finite_I zero l = absurd (NatL.not-suc-le-zero l)
finite_I (suc k) l =
    rw (inverse_product k) (over Poly (poly_constant 1ℤ) (λ f g. poly_mul f g) (suc k) k (λ d h b e. finite_F d h))

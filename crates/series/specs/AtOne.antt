-- A polynomial at z = 1 is the sum of its coefficients. f is a modulo z - 1 (`AtOne f a`) for one a alone (`only`), and
-- that is the sum (`at_one`); so the laws of the sum are ring equations: it goes through sums and products, and stays
-- where z^t is put for z.
use Rattle.std.specs.Prelude.{ℕ, zero, suc, ◌+◌, ◌*◌, ◌<◌, ◌≡◌, refl, [], ◌∷◌, ℤ, pos}
use Rattle.std.proofs.Common.{sym, ◌∙◌, ap, ap₂, arith, add-one}
use Rattle.std.proofs.Math.Nat as NatL
use Rattle.definitions.specs.Integers.{◌⊕◌, ◌⊗◌, ⊖, 0ℤ, 1ℤ}
use Rattle.definitions.specs.Series.{Series, tail, constant, 𝟘, 𝟙, ◌+ˢ◌, _ˢ, ◌·◌, z^, spread, firsts}
use Rattle.definitions.specs.Polynomials.{z^_1}
use Rattle.definitions.specs.Answer.{gain_of}
use Rattle.integers.specs.Solver.{:0, :1, ◌:+◌, ◌:*◌, :-, x, y, z, w, u}
use Rattle.integers.specs.Whole.{zero_⊕, ⊗_one, ringℤ}
use Rattle.series.specs.Laws.{constants_mul, constants_add, constants_neg, constant-above, ringˢ}
use Rattle.series.specs.Maps.{z^-zero, z^-add, spread-add, spread-mul, spread-neg, spread-constant}
use Rattle.series.specs.Maps.{spread-z^, head_tail}
use Rattle.series.specs.Degree.{ZeroFrom, Poly, poly_add, poly_neg, poly_mul, poly_constant, poly_z^, poly_spread}
use Rattle.series.specs.Degree.{poly_z^_1, monic_z^_1, nothing, lower}

-- f is a + (z - 1) q for a polynomial q
abbrev pub AtOne : Series → ℤ → Type 0
AtOne f a = (q : Series) × Poly q × (f ≡ constant a +ˢ z^_1 1 · q)

pub at_one-constant : (a : ℤ) → AtOne (constant a) a
at_one-constant a = (𝟘, poly_constant 0ℤ, ringˢ (constant a ∷ z^_1 1 ∷ []) x (x :+ y :* :0) refl)

-- ---- sums and products
module _ (f g : Series) (a b : ℤ) where
  pub at_one-add : AtOne f a → AtOne g b → AtOne (f +ˢ g) (a ⊕ b)
  at_one-add (p, P, d) (q, Q, e) = (
    p +ˢ q,
    poly_add p q P Q,
    ap₂ ◌+ˢ◌ d e
        ∙ ringˢ (constant a ∷ constant b ∷ z^_1 1 ∷ p ∷ q ∷ []) (x :+ z :* w :+ (y :+ z :* u))
        (x :+ y :+ z :* (w :+ u)) refl
        ∙ ap (λ c. c +ˢ z^_1 1 · (p +ˢ q)) (sym (constants_add a b)),
  )

  pub at_one-mul : AtOne f a → AtOne g b → AtOne (f · g) (a ⊗ b)
  at_one-mul (p, P, d) (q, Q, e) = (
    f · q +ˢ constant b · p,
    poly_add (f · q) (constant b · p) (poly_mul f q whole Q) (poly_mul (constant b) p (poly_constant b) P),
    ap (λ h. f · h) e
        ∙ ringˢ (f ∷ constant b ∷ z^_1 1 ∷ q ∷ []) (x :* (y :+ z :* w)) (x :* y :+ z :* (x :* w)) refl
        ∙ ap (λ h. h · constant b +ˢ z^_1 1 · (f · q)) d
        ∙ ringˢ (constant a ∷ constant b ∷ z^_1 1 ∷ p ∷ (f · q) ∷ []) ((x :+ z :* w) :* y :+ z :* u)
        (x :* y :+ z :* (u :+ y :* w)) refl
        ∙ ap (λ c. c +ˢ z^_1 1 · (f · q +ˢ constant b · p)) (sym (constants_mul a b)),
  )
    where
      whole : Poly f
      whole =
          rw d
          (poly_add (constant a) (z^_1 1 · p) (poly_constant a) (poly_mul (z^_1 1) p (poly_z^_1 1 (omega arith)) P))

-- ---- powers of z are 1; z^(n c) is 1 + (z^n - 1) g, and g, which is 1 + z^n + .. + z^(n (c - 1)), is c
pub at_one-z^ : (n : ℕ) → AtOne (z^ n) 1ℤ
unfolding z^_1
at_one-z^ zero = rw z^-zero (at_one-constant 1ℤ)
at_one-z^ (suc n) =
    rw (⊗_one, z^-add n 1, add-one) at (at_one-mul (z^ n) (z^ 1) 1ℤ 1ℤ (at_one-z^ n) first)
  where
    first : AtOne (z^ 1) 1ℤ
    first = (𝟙, poly_constant 1ℤ, ringˢ (z^ 1 ∷ []) x (:1 :+ (x :+ :- :1) :* :1) refl)

abbrev pub Powers : ℕ → ℕ → Type 0
Powers n c = (g : Series) × Poly g × AtOne g (pos c) × (z^ (n * c) ≡ 𝟙 +ˢ z^_1 n · g)

pub powers : (n c : ℕ) → Powers n c
unfolding z^_1 ◌⊕◌
powers n zero = (
  𝟘,
  poly_constant 0ℤ,
  at_one-constant 0ℤ,
  ap z^ (NatL.mul-zero n) ∙ z^-zero ∙ ringˢ (z^_1 n ∷ []) :1 (:1 :+ x :* :0) refl,
)
powers n (suc c) = next (powers n c)
  where
    one_more : 1ℤ ⊕ pos c ≡ pos (suc c)
    one_more = ap pos (NatL.add_comm 1 c ∙ add-one c)

    next : Powers n c → Powers n (suc c)
    next (g, P, s, e) = (
      z^ (n * c) +ˢ g,
      poly_add (z^ (n * c)) g (poly_z^ (n * c)) P,
      rw one_more at (at_one-add (z^ (n * c)) g 1ℤ (pos c) (at_one-z^ (n * c)) s),
      ap z^ (NatL.mul-suc n c) ∙ sym (z^-add (n * c) n)
          ∙ ringˢ (z^ (n * c) ∷ z^ n ∷ []) (x :* y) (x :+ (y :+ :- :1) :* x) refl
          ∙ ap (λ h. h +ˢ (z^ n +ˢ _ˢ 𝟙) · z^ (n * c)) e
          ∙ ringˢ ((z^ n +ˢ _ˢ 𝟙) ∷ g ∷ z^ (n * c) ∷ []) (:1 :+ x :* y :+ x :* z) (:1 :+ x :* (z :+ y)) refl,
    )

-- ---- z^t for z
pub at_one-spread : (t : ℕ) → 0 < t → (f : Series) (a : ℤ) → AtOne f a → AtOne (spread t f) a
unfolding z^_1
at_one-spread t h f a (q, Q, e) =
    let (g, P, d) = at_one-z^ t in (
      g · spread t q,
      poly_mul g (spread t q) P (poly_spread t q h Q),
      ap (spread t) e
          ∙ spread-add t h (constant a) ((z^ 1 +ˢ _ˢ 𝟙) · q)
          ∙ ap₂ ◌+ˢ◌ (spread-constant t h a) (spread-mul t h (z^ 1 +ˢ _ˢ 𝟙) q
          ∙ ap (λ k. k · spread t q) (spread-add t h (z^ 1) (_ˢ 𝟙)
          ∙ ap₂ ◌+ˢ◌ (spread-z^ t h 1 ∙ ap z^ (NatL.one-mul t) ∙ d) (spread-neg t h 𝟙
          ∙ ap _ˢ (spread-constant t h 1ℤ))))
          ∙ ringˢ (constant a ∷ (z^ 1 +ˢ _ˢ 𝟙) ∷ g ∷ spread t q ∷ []) (x :+ (:1 :+ y :* z :+ :- :1) :* w)
          (x :+ y :* (z :* w)) refl,
    )

-- ---- what a polynomial is at 1: the sum of its coefficients
pub at_one : (n : ℕ) (f : Series) → ZeroFrom n f → AtOne f (gain_of (firsts n f))
unfolding gain_of firsts z^_1
at_one zero f h = (
  𝟘,
  poly_constant 0ℤ,
  nothing f h ∙ ringˢ (z^_1 1 ∷ []) :0 (:0 :+ x :* :0) refl,
)
at_one (suc n) f h = next (at_one n (tail f) later)
  where
    later : ZeroFrom n (tail f)
    later i l = h (suc i) (omega arith)

    next : AtOne (tail f) (gain_of (firsts n (tail f))) → AtOne f (f zero ⊕ gain_of (firsts n (tail f)))
    next (q, Q, e) =
        let a = gain_of (firsts n (tail f)) in (
          tail f +ˢ q,
          poly_add (tail f) q (n, later) Q,
          head_tail f
              ∙ ringˢ (constant (f zero) ∷ z^ 1 ∷ tail f ∷ []) (x :+ y :* z) (x :+ z :+ (y :+ :- :1) :* z) refl
              ∙ ap (λ g. constant (f zero) +ˢ g +ˢ (z^ 1 +ˢ _ˢ 𝟙) · tail f) e
              ∙ ringˢ (constant (f zero) ∷ constant a ∷ (z^ 1 +ˢ _ˢ 𝟙) ∷ q ∷ tail f ∷ [])
              (x :+ (y :+ z :* w) :+ z :* u) (x :+ y :+ z :* (u :+ w)) refl
              ∙ ap (λ c. c +ˢ (z^ 1 +ˢ _ˢ 𝟙) · (tail f +ˢ q)) (sym (constants_add (f zero) a)),
        )

-- ---- it is the only such number: a constant is a multiple of z - 1 only where it is 0
none : (c : ℤ) (q : Series) → constant c ≡ q · z^_1 1 → (k : ℕ) → ZeroFrom k q → c ≡ 0ℤ
unfolding constant
none c q e zero h =
    ap (λ s. s zero) (e ∙ ap (λ s. s · z^_1 1) (nothing q h) ∙ ringˢ (z^_1 1 ∷ []) (:0 :* x) :0 refl)
none c q e (suc k) h =
    none c q e k
    (lower q (z^_1 1) 1 (monic_z^_1 1 (omega arith)) k
    (sym (ap (λ s. s (k + 1)) e) ∙ constant-above c (k + 1) (omega arith)) h)

pub only : (f : Series) (a b : ℤ) → AtOne f a → AtOne f b → a ≡ b
only f a b (p, P, d) (q, Q, e) =
    ringℤ (a ∷ b ∷ []) x (x :+ :- y :+ y) refl ∙ ap (λ c. c ⊕ b) difference ∙ zero_⊕ b
  where
    multiple : constant (a ⊕ ⊖ b) ≡ (q +ˢ _ˢ p) · z^_1 1
    multiple =
        constants_add a (⊖ b) ∙ ap (λ s. constant a +ˢ s) (constants_neg b)
        ∙ ringˢ (constant a ∷ constant b ∷ z^_1 1 ∷ p ∷ []) (x :+ :- y) (x :+ z :* w :+ :- y :+ :- (z :* w)) refl
        ∙ ap (λ s. s +ˢ _ˢ (constant b) +ˢ _ˢ (z^_1 1 · p)) (sym d ∙ e)
        ∙ ringˢ (constant b ∷ z^_1 1 ∷ p ∷ q ∷ []) (x :+ y :* w :+ :- x :+ :- (y :* z)) ((w :+ :- z) :* y) refl

    difference : a ⊕ ⊖ b ≡ 0ℤ
    difference =
        let r : Poly (q +ˢ _ˢ p) = poly_add q (_ˢ p) Q (poly_neg p P) in
        none (a ⊕ ⊖ b) (q +ˢ _ˢ p) multiple r.0 r.1

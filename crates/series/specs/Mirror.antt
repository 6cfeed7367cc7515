-- A polynomial read backwards: the mirror of f at n has f(n - i) at i. The mirror of a product is the product of the
-- mirrors, degrees added (`mirror-mul`), by recursion on the first factor, f = f(0) + z (tail f), and it goes with z ↦
-- z^t (`mirror-spread`).
use Rattle.std.specs.Prelude.{ℕ, zero, suc, ◌+◌, ◌*◌, ◌-◌, ◌/◌, ◌%◌, ◌≤◌, ◌<◌, ◌≡◌, refl, cond, ◌≢◌, [], ◌∷◌, ℤ, leb}
use Rattle.std.proofs.Common.{sym, ◌∙◌, ap, ap₂, arith, le-leb}
use Rattle.std.proofs.Math.Path.{fun_ext}
use Rattle.std.proofs.Math.Decide.{dec_le}
use Rattle.std.proofs.Math.Nat as NatL
use Rattle.std.proofs.lemmas.Bool.{lt-leb}
use Rattle.definitions.specs.Integers.{◌⊕◌, ◌⊗◌, ⊖, 0ℤ, 1ℤ}
use Rattle.definitions.specs.Series.{Series, tail, constant, ◌+ˢ◌, _ˢ, ◌·◌, z^, spread}
use Rattle.integers.specs.Solver.{◌:+◌, ◌:*◌, x, y, z, w, u}
use Rattle.integers.specs.Whole.{⊕_zero, ⊗_one, ⊗_zero, zero_⊕, ⊖-zero}
use Rattle.series.specs.Laws.{at_+ˢ, at__ˢ, at_mul-zero, tail-mul, scale, constant-mul, constants_mul}
use Rattle.series.specs.Laws.{ringˢ}
use Rattle.series.specs.Maps.{at_z^, off_z^, is_shift, spread_on, spread_off, is_spread}
use Rattle.series.specs.Degree.{ZeroFrom}

unfoldable pub mirror : ℕ → Series → Series
mirror n f i = cond (leb i n) (f (n - i)) 0ℤ

pub mirror_in : (n : ℕ) (f : Series) (i : ℕ) → i ≤ n → mirror n f i ≡ f (n - i)
unfolding mirror
mirror_in n f i h = rw (le-leb i n h)

pub mirror_out : (n : ℕ) (f : Series) (i : ℕ) → n < i → mirror n f i ≡ 0ℤ
unfolding mirror
mirror_out n f i h = rw (lt-leb i n h)

-- what has f(n - i) up to n, and nothing above, is the mirror
pub is_mirror : (n : ℕ) (f g : Series) → ((i : ℕ) → i ≤ n → g i ≡ f (n - i)) → ((i : ℕ) → n < i → g i ≡ 0ℤ)
    → mirror n f ≡ g
is_mirror n f g low high = fun_ext (λ i. go i (dec_le i n))
  where
    go : (i : ℕ) → Dec (i ≤ n) → mirror n f i ≡ g i
    go i (yes h) = mirror_in n f i h ∙ sym (low i h)
    go i (no h) = mirror_out n f i (NatL.lt_of_not-le h) ∙ sym (high i (NatL.lt_of_not-le h))

-- ---- sums and multiples
mirror-add : (n : ℕ) (f g : Series) → mirror n (f +ˢ g) ≡ mirror n f +ˢ mirror n g
mirror-add n f g =
    is_mirror n (f +ˢ g) (mirror n f +ˢ mirror n g)
    (λ i h. at_+ˢ (mirror n f) (mirror n g) i ∙ ap₂ ◌⊕◌ (mirror_in n f i h) (mirror_in n g i h)
    ∙ sym (at_+ˢ f g (n - i)))
    (λ i h. at_+ˢ (mirror n f) (mirror n g) i ∙ ap₂ ◌⊕◌ (mirror_out n f i h) (mirror_out n g i h) ∙ ⊕_zero 0ℤ)

pub mirror-neg : (n : ℕ) (f : Series) → mirror n (_ˢ f) ≡ _ˢ (mirror n f)
mirror-neg n f =
    is_mirror n (_ˢ f) (_ˢ (mirror n f))
    (λ i h. at__ˢ (mirror n f) i ∙ ap ⊖ (mirror_in n f i h) ∙ sym (at__ˢ f (n - i)))
    (λ i h. at__ˢ (mirror n f) i ∙ ap ⊖ (mirror_out n f i h) ∙ ⊖-zero)

mirror-scale : (n : ℕ) (a : ℤ) (f : Series) → mirror n (scale a f) ≡ constant a · mirror n f
unfolding scale
mirror-scale n a f =
    is_mirror n (scale a f) (constant a · mirror n f)
    (λ i h. constant-mul a (mirror n f) i ∙ ap (λ q. a ⊗ q) (mirror_in n f i h))
    (λ i h. constant-mul a (mirror n f) i ∙ ap (λ q. a ⊗ q) (mirror_out n f i h) ∙ ⊗_zero a)

-- ---- one degree more, and the first coefficient alone
first_last : (n : ℕ) (f : Series) → mirror (suc n) f ≡ constant (f zero) · z^ (suc n) +ˢ mirror n (tail f)
first_last n f =
    is_mirror (suc n) f (constant (f zero) · z^ (suc n) +ˢ mirror n (tail f)) (λ i h. low i h (dec_le i n)) high
  where
    parts : (i : ℕ) → (constant (f zero) · z^ (suc n) +ˢ mirror n (tail f)) i
        ≡ f zero ⊗ z^ (suc n) i ⊕ mirror n (tail f) i
    parts i = at_+ˢ (constant (f zero) · z^ (suc n)) (mirror n (tail f)) i
        ∙ ap (λ q. q ⊕ mirror n (tail f) i) (constant-mul (f zero) (z^ (suc n)) i)

    off : (i : ℕ) → i ≢ suc n → (constant (f zero) · z^ (suc n) +ˢ mirror n (tail f)) i ≡ mirror n (tail f) i
    off i e = parts i ∙ ap (λ q. f zero ⊗ q ⊕ mirror n (tail f) i) (off_z^ (suc n) i e)
        ∙ ap (λ q. q ⊕ mirror n (tail f) i) (⊗_zero (f zero)) ∙ zero_⊕ (mirror n (tail f) i)

    low : (i : ℕ) → i ≤ suc n → Dec (i ≤ n) → (constant (f zero) · z^ (suc n) +ˢ mirror n (tail f)) i ≡ f (suc n - i)
    low i h (yes k) =
        let at : suc (n - i) ≡ suc n - i = omega arith in
        off i (λ e. omega arith) ∙ mirror_in n (tail f) i k ∙ ap f at
    low i h (no k) =
        let at : i ≡ suc n = omega (arith, NatL.lt_of_not-le k) in
        let none : 0 ≡ suc n - i = omega arith in
        parts i
        ∙ ap₂ (λ a b. f zero ⊗ a ⊕ b) (ap (z^ (suc n)) at ∙ at_z^ (suc n))
        (mirror_out n (tail f) i (NatL.lt_of_not-le k))
        ∙ ⊕_zero (f zero ⊗ 1ℤ) ∙ ⊗_one (f zero) ∙ ap f none

    high : (i : ℕ) → suc n < i → (constant (f zero) · z^ (suc n) +ˢ mirror n (tail f)) i ≡ 0ℤ
    high i h = off i (λ e. omega arith) ∙ mirror_out n (tail f) i (omega arith)

-- read backwards from further up, everything stands higher
higher : (m n : ℕ) (f : Series) → ZeroFrom (suc n) f → z^ m · mirror n f ≡ mirror (m + n) f
higher m n f a =
    is_shift m (mirror n f) (mirror (m + n) f)
    (λ i h. mirror_in (m + n) f i (omega arith) ∙ a (m + n - i) (omega arith))
    (λ i. go i (dec_le i n))
  where
    go : (i : ℕ) → Dec (i ≤ n) → mirror (m + n) f (m + i) ≡ mirror n f i
    go i (yes h) =
        let at : m + n - (m + i) ≡ n - i = omega arith in
        mirror_in (m + n) f (m + i) (omega arith) ∙ ap f at ∙ sym (mirror_in n f i h)
    go i (no h) =
        mirror_out (m + n) f (m + i) (omega (arith, NatL.lt_of_not-le h)) ∙ sym (mirror_out n f i (NatL.lt_of_not-le h))

-- ---- products
constant-only : (f : Series) → ZeroFrom 1 f → f ≡ constant (f zero)
unfolding constant
constant-only f a = fun_ext (go)
  where
    go : (i : ℕ) → f i ≡ constant (f zero) i
    go zero = refl
    go (suc i) = a (suc i) (omega arith)

mirror-first : (f : Series) → mirror 0 f ≡ constant (f zero)
unfolding constant
mirror-first f = is_mirror 0 f (constant (f zero)) low high
  where
    low : (i : ℕ) → i ≤ 0 → constant (f zero) i ≡ f (0 - i)
    low zero h = refl
    low (suc i) h = absurd (omega arith)

    high : (i : ℕ) → 0 < i → constant (f zero) i ≡ 0ℤ
    high zero h = absurd (omega arith)
    high (suc i) h = refl

scale_is : (a : ℤ) (f : Series) → constant a · f ≡ scale a f
unfolding scale
scale_is a f = fun_ext (constant-mul a f)

pub mirror-mul : (m n : ℕ) (f g : Series) → ZeroFrom (suc m) f → ZeroFrom (suc n) g → mirror (m + n) (f · g)
    ≡ mirror m f · mirror n g
mirror-mul zero n f g a b =
    ap₂ (λ k q. mirror k (q · g)) (NatL.zero-add n) (constant-only f a)
    ∙ ap (mirror n) (scale_is (f zero) g)
    ∙ mirror-scale n (f zero) g
    ∙ ap (λ q. q · mirror n g) (sym (mirror-first f))
mirror-mul (suc m) n f g a b =
    ap (λ k. mirror k (f · g)) (NatL.suc-add m n)
    ∙ first_last (m + n) (f · g)
    ∙ ap₂ (λ c q. constant c · z^ (suc (m + n)) +ˢ mirror (m + n) q) (at_mul-zero f g) (tail-mul f g)
    ∙ ap (λ q. constant (f zero ⊗ g zero) · z^ (suc (m + n)) +ˢ q)
    (mirror-add (m + n) (scale (f zero) (tail g)) (tail f · g)
    ∙ ap₂ ◌+ˢ◌ (mirror-scale (m + n) (f zero) (tail g)) (mirror-mul m n (tail f) g (λ i h. a (suc i) (omega arith)) b))
    ∙ ap (λ q. q · z^ (suc (m + n)) +ˢ (constant (f zero) · mirror (m + n) (tail g) +ˢ mirror m (tail f) · mirror n g))
    (constants_mul (f zero) (g zero))
    ∙ ringˢ (constant (f zero) ∷ constant (g zero) ∷ z^ (suc (m + n)) ∷ mirror (m + n) (tail g)
    ∷ (mirror m (tail f) · mirror n g) ∷ [])
    (x :* y :* z :+ (x :* w :+ u)) (x :* (y :* z :+ w) :+ u) refl
    ∙ ap (λ q. constant (f zero) · q +ˢ mirror m (tail f) · mirror n g)
    (sym (first_last (m + n) g) ∙ ap (λ k. mirror k g) (sym (NatL.suc-add m n)) ∙ sym (higher (suc m) n g b))
    ∙ ringˢ (constant (f zero) ∷ z^ (suc m) ∷ mirror n g ∷ mirror m (tail f) ∷ [])
    (x :* (y :* z) :+ w :* z) ((x :* y :+ w) :* z) refl
    ∙ ap (λ q. q · mirror n g) (sym (first_last m f))

pub mirror-spread : (t n : ℕ) (f : Series) → 0 < t → spread t (mirror n f) ≡ mirror (n * t) (spread t f)
mirror-spread t n f h =
    is_spread t (mirror n f) (mirror (n * t) (spread t f)) (λ i e. on i (i / t) e refl (dec_le (i / t) n))
    (λ i e. off i e (dec_le i (n * t)))
  where
    exact : (i : ℕ) → i % t ≡ 0 → i ≡ i / t * t
    exact i e = omega (arith, NatL.div-add-mod' i t)

    left : (i q : ℕ) → i ≡ q * t → q ≤ n → n * t - i ≡ (n - q) * t
    left i q e k =
        let sum : n ≡ q + (n - q) = omega arith in
        omega (arith, ap (λ s. s * t) sum, NatL.add-mul q (n - q) t)

    on : (i q : ℕ) → i % t ≡ 0 → i / t ≡ q → Dec (q ≤ n) → mirror (n * t) (spread t f) i ≡ mirror n f q
    on i q e p (yes k) =
        let at : i ≡ q * t = exact i e ∙ ap (λ s. s * t) p in
        mirror_in (n * t) (spread t f) i (omega (arith, NatL.mul-le-mul_right t k))
        ∙ ap (spread t f) (left i q at k)
        ∙ spread_on t ((n - q) * t) f (NatL.mul-mod_left (n - q) t)
        ∙ ap f (NatL.mul-div_cancel (n - q) h)
        ∙ sym (mirror_in n f q k)
    on i q e p (no k) =
        let at : i ≡ q * t = exact i e ∙ ap (λ s. s * t) p in
        mirror_out (n * t) (spread t f) i (omega (arith, NatL.mul-lt-mul_of_pos_right (NatL.lt_of_not-le k) h))
        ∙ sym (mirror_out n f q (NatL.lt_of_not-le k))

    off : (i : ℕ) → i % t ≢ 0 → Dec (i ≤ n * t) → mirror (n * t) (spread t f) i ≡ 0ℤ
    off i e (yes k) =
        mirror_in (n * t) (spread t f) i k
        ∙ spread_off t (n * t - i) f
        (λ p. e (NatL.mod-eq-zero_of_dvd t
        ((NatL.dvd-sub_iff_right t k (NatL.dvd-mul_left t n)).0 (NatL.dvd_of_mod-eq-zero t p))))
    off i e (no k) = mirror_out (n * t) (spread t f) i (NatL.lt_of_not-le k)

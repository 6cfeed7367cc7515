-- Polynomials: series that are 0 from some degree on. They are closed under the ring's operations and z ↦ z^t; the
-- highest coefficients of a product multiply; a polynomial factor of a monic polynomial by a monic one is monic, and
-- its degree is the difference (`monic_div`).
use Rattle.std.specs.Prelude.{ℕ, zero, suc, ◌+◌, ◌*◌, ◌/◌, ◌%◌, ◌≤◌, ◌<◌, ◌≡◌, ℤ}
use Rattle.std.proofs.Common.{sym, ◌∙◌, ap, ap₂, arith}
use Rattle.std.proofs.Math.Path.{fun_ext}
use Rattle.std.proofs.Math.Decide.{dec_le, ℕ_discrete}
use Rattle.std.proofs.Math.Nat as NatL
use Rattle.definitions.specs.Integers.{◌⊕◌, ◌⊗◌, ⊖, 0ℤ, 1ℤ}
use Rattle.definitions.specs.Series.{Series, tail, constant, 𝟘, 𝟙, ◌+ˢ◌, _ˢ, ◌·◌, z^, spread}
use Rattle.definitions.specs.Polynomials.{z^_1}
use Rattle.integers.specs.Whole.{⊕_zero, ⊗_one, ⊗_zero, zero_⊗, zero_⊕, ⊖-zero}
use Rattle.series.specs.Laws.{at_+ˢ, at__ˢ, at_𝟘, at_mul-zero, at_mul-suc, constant-above}
use Rattle.series.specs.Maps.{at_z^, off_z^, spread_on, spread_off}

-- nothing at n and above
abbrev pub ZeroFrom : ℕ → Series → Type 0
ZeroFrom n f = (i : ℕ) → n ≤ i → f i ≡ 0ℤ

abbrev pub Poly : Series → Type 0
Poly f = (n : ℕ) × ZeroFrom n f

-- 1 at n and nothing above
pub record Monic (n : ℕ) (f : Series) : Type 0 where
  pub top : f n ≡ 1ℤ
  pub above : ZeroFrom (suc n) f

pub zero_later : {m n : ℕ} {f : Series} → m ≤ n → ZeroFrom m f → ZeroFrom n f
zero_later h z i k = z i (NatL.le_trans h k)

pub nothing : (f : Series) → ZeroFrom 0 f → f ≡ 𝟘
nothing f h = fun_ext (λ i. h i (omega arith) ∙ sym (at_𝟘 i))

-- ---- sums and products
pub zero-add : (n : ℕ) (f g : Series) → ZeroFrom n f → ZeroFrom n g → ZeroFrom n (f +ˢ g)
zero-add n f g a b i h = at_+ˢ f g i ∙ ap₂ ◌⊕◌ (a i h) (b i h) ∙ ⊕_zero 0ℤ

pub zero-neg : (n : ℕ) (f : Series) → ZeroFrom n f → ZeroFrom n (_ˢ f)
zero-neg n f a i h = at__ˢ f i ∙ ap ⊖ (a i h) ∙ ⊖-zero

none-mul : (f g : Series) → ZeroFrom 0 f → (i : ℕ) → (f · g) i ≡ 0ℤ
none-mul f g a zero = at_mul-zero f g ∙ ap (λ q. q ⊗ g zero) (a 0 (omega arith)) ∙ zero_⊗ (g zero)
none-mul f g a (suc i) =
    at_mul-suc f g i
    ∙ ap₂ ◌⊕◌ (ap (λ q. q ⊗ g (suc i)) (a 0 (omega arith)) ∙ zero_⊗ (g (suc i)))
    (none-mul (tail f) g (λ j h. a (suc j) (omega arith)) i)
    ∙ ⊕_zero 0ℤ

-- f(0) times nothing is nothing, so what is left is the tail's
low-mul : (f g : Series) (i : ℕ) → g (suc i) ≡ 0ℤ → (f · g) (suc i) ≡ (tail f · g) i
low-mul f g i e =
    at_mul-suc f g i ∙ ap (λ q. q ⊕ (tail f · g) i) (ap (λ q. f zero ⊗ q) e ∙ ⊗_zero (f zero)) ∙ zero_⊕ ((tail f · g) i)

pub zero-mul : (m n : ℕ) (f g : Series) → ZeroFrom m f → ZeroFrom n g → ZeroFrom (m + n) (f · g)
zero-mul zero n f g a b i h = none-mul f g a i
zero-mul (suc m) n f g a b zero h = absurd (omega arith)
zero-mul (suc m) n f g a b (suc i) h =
    low-mul f g i (b (suc i) (omega arith)) ∙ zero-mul m n (tail f) g (λ j k. a (suc j) (omega arith)) b i (omega arith)

-- the highest coefficients multiply
only-first : (f g : Series) → ZeroFrom 1 f → (i : ℕ) → (f · g) i ≡ f zero ⊗ g i
only-first f g a zero = at_mul-zero f g
only-first f g a (suc i) =
    at_mul-suc f g i ∙ ap (λ q. f zero ⊗ g (suc i) ⊕ q) (none-mul (tail f) g (λ j h. a (suc j) (omega arith)) i)
    ∙ ⊕_zero (f zero ⊗ g (suc i))

pub top-mul : (m n : ℕ) (f g : Series) → ZeroFrom (suc m) f → ZeroFrom (suc n) g → (f · g) (m + n) ≡ f m ⊗ g n
top-mul zero n f g a b = only-first f g a (0 + n) ∙ ap (λ k. f zero ⊗ g k) (NatL.zero-add n)
top-mul (suc m) n f g a b =
    ap (f · g) (NatL.suc-add m n) ∙ low-mul f g (m + n) (b (suc (m + n)) (omega arith))
    ∙ top-mul m n (tail f) g (λ j k. a (suc j) (omega arith)) b

-- ---- polynomials
pub poly_add : (f g : Series) → Poly f → Poly g → Poly (f +ˢ g)
poly_add f g (m, a) (n, b) = (
  m + n,
  zero-add (m + n) f g (zero_later {f = f} (NatL.le-add_right m n) a)
      (zero_later {f = g} (NatL.le-add_left n m) b),
)

pub poly_neg : (f : Series) → Poly f → Poly (_ˢ f)
poly_neg f p = (p.0, zero-neg p.0 f p.1)

pub poly_mul : (f g : Series) → Poly f → Poly g → Poly (f · g)
poly_mul f g p q = (p.0 + q.0, zero-mul p.0 q.0 f g p.1 q.1)

pub poly_constant : (a : ℤ) → Poly (constant a)
poly_constant a = (1, constant-above a)

pub poly_z^ : (n : ℕ) → Poly (z^ n)
poly_z^ n = (suc n, λ i h. off_z^ n i (λ e. lemma i h e))
  where
    lemma : (i : ℕ) → suc n ≤ i → i ≡ n → ⊥
    lemma i h e = omega arith

spread-zero_from : (t n : ℕ) (f : Series) → 0 < t → ZeroFrom n f → (i : ℕ) → n * t ≤ i → Dec (i % t ≡ 0)
    → spread t f i ≡ 0ℤ
spread-zero_from t n f h a i k (yes e) = spread_on t i f e ∙ a (i / t) ((NatL.le-div_iff_mul-le h).1 k)
spread-zero_from t n f h a i k (no e) = spread_off t i f e

pub poly_spread : (t : ℕ) (f : Series) → 0 < t → Poly f → Poly (spread t f)
poly_spread t f h p = (p.0 * t, λ i k. spread-zero_from t p.0 f h p.1 i k (ℕ_discrete (i % t) 0))

-- degrees add: nothing above m and nothing above n leave nothing above m + n
pub degrees_add : (m n : ℕ) (f g : Series) → ZeroFrom (suc m) f → ZeroFrom (suc n) g → ZeroFrom (suc (m + n)) (f · g)
degrees_add m n f g a b i h = go (ℕ_discrete i (m + suc n))
  where
    go : Dec (i ≡ m + suc n) → (f · g) i ≡ 0ℤ
    go (yes e) =
        ap (f · g) e ∙ top-mul m (suc n) f g a (λ j k. b j (omega arith))
        ∙ ap (λ q. f m ⊗ q) (b (suc n) (NatL.le_refl (suc n))) ∙ ⊗_zero (f m)
    go (no e) = zero-mul (suc m) (suc n) f g a b i (omega arith)

-- ---- monic polynomials
pub monic_mul : (m n : ℕ) (f g : Series) → Monic m f → Monic n g → Monic (m + n) (f · g)
monic_mul m n f g a b =
    record {
      top = top-mul m n f g a.above b.above ∙ ap₂ ◌⊗◌ a.top b.top ∙ ⊗_one 1ℤ;
      above = degrees_add m n f g a.above b.above;
    }

pub monic_spread : (t n : ℕ) (f : Series) → 0 < t → Monic n f → Monic (n * t) (spread t f)
monic_spread t n f h a =
    record {
      top = spread_on t (n * t) f (NatL.mul-mod_left n t) ∙ ap f (NatL.mul-div_cancel n h) ∙ a.top;
      above = λ i k. go i k (ℕ_discrete (i % t) 0);
    }
  where
    go : (i : ℕ) → suc (n * t) ≤ i → Dec (i % t ≡ 0) → spread t f i ≡ 0ℤ
    go i k (yes e) =
        spread_on t i f e ∙ a.above (i / t) (NatL.lt_of_mul-lt-mul_right t (omega (arith, NatL.div-add-mod' i t)))
    go i k (no e) = spread_off t i f e

pub monic_poly : (n : ℕ) (f : Series) → Monic n f → Poly f
monic_poly n f a = (suc n, a.above)

-- z^n - 1
pub z^_1_at : (n i : ℕ) → 0 < i → z^_1 n i ≡ z^ n i
unfolding z^_1
z^_1_at n i l =
    at_+ˢ (z^ n) (_ˢ 𝟙) i ∙ ap (λ a. z^ n i ⊕ a) (at__ˢ 𝟙 i ∙ ap ⊖ (constant-above 1ℤ i l) ∙ ⊖-zero) ∙ ⊕_zero (z^ n i)

pub monic_z^_1 : (n : ℕ) → 0 < n → Monic n (z^_1 n)
monic_z^_1 n l =
    record {
      top = z^_1_at n n l ∙ at_z^ n;
      above = λ i h. z^_1_at n i (omega arith)
          ∙ off_z^ n i (λ e. not_same i h e);
    }
  where
    not_same : (i : ℕ) → suc n ≤ i → i ≡ n → ⊥
    not_same i h e = omega arith

pub poly_z^_1 : (n : ℕ) → 0 < n → Poly (z^_1 n)
poly_z^_1 n l = monic_poly n (z^_1 n) (monic_z^_1 n l)

-- g is monic of degree n: the highest coefficient of q g is that of q, so where q g has none there, neither has q
module _ (q g : Series) (n : ℕ) (b : Monic n g) where
  times-top : (k : ℕ) → ZeroFrom (suc k) q → q k ≡ (q · g) (k + n)
  times-top k z = sym (top-mul k n q g z b.above ∙ ap (λ a. q k ⊗ a) b.top ∙ ⊗_one (q k))

  pub lower : (k : ℕ) → (q · g) (k + n) ≡ 0ℤ → ZeroFrom (suc k) q → ZeroFrom k q
  lower k e z i l = go (ℕ_discrete i k)
    where
      go : Dec (i ≡ k) → q i ≡ 0ℤ
      go (yes d) = ap q d ∙ times-top k z ∙ e
      go (no d) = z i (omega arith)

-- q g is monic of degree m + n and g of degree n: then q, a polynomial, is monic of degree m
module _ (q g : Series) (m n : ℕ) (b : Monic n g) (c : Monic (m + n) (q · g)) where
  fall_by : (k : ℕ) → (ZeroFrom k q → ZeroFrom (suc m) q) → ZeroFrom (suc k) q → Dec (k ≤ m) → ZeroFrom (suc m) q
  fall_by k next z (yes h) = λ i l. z i (omega arith)
  fall_by k next z (no h) =
      let l : m < k = NatL.lt_of_not-le h in next (lower q g n b k (c.above (k + n) (omega arith)) z)

  fall : (k : ℕ) → ZeroFrom k q → ZeroFrom (suc m) q
  fall zero z = λ i l. z i (omega arith)
  fall (suc k) z = fall_by k (fall k) z (dec_le k m)

  pub monic_div : Poly q → Monic m q
  monic_div p =
      let z : ZeroFrom (suc m) q = fall p.0 p.1 in
      record { top = times-top q g n b m z ∙ c.top; above = z }

-- What the second engine makes is F and I (`made_is`), from the law of one prime more: F(mp) F(m) is F(m) with z^p for
-- z, and F(m) I(m) is z^m - 1. So its product before the division is F(mp) times z^m - 1 (`product-first`), and that of
-- I is I(mp) itself (`product_inverse`). None has a degree above mp (`made-degree`, `product-degree`).
use Prim.Native.Nat.{ℕ, zero, suc, ◌+◌, ◌*◌, ◌-◌, ◌<◌, ◌≤◌, ◌∣◌}
use Rattle.std.proofs.Math.Nat as NatL
use Rattle.std.specs.Prelude.{◌≡◌, refl, Bool, List, [], ◌∷◌, eqb, get_or}
use Rattle.std.proofs.Common.{sym, ◌∙◌}
use Rattle.std.proofs.Math.Path.{ap, ap₂}
use Rattle.std.proofs.Math.Bool.{true, false, cond}
use native.Mathlib.Omega.{arith}
use Rattle.definitions.specs.Integers.{◌⊕◌, ◌⊝◌, 0ℤ}
use Rattle.definitions.specs.Series.{Series, _ˢ, ◌·◌, ◌÷◌, z^, spread}
use Rattle.definitions.specs.Numbers.{row_to, phi}
use Rattle.definitions.specs.Polynomials.{z^_1, F, I, polynomial, degree}
use Rattle.definitions.specs.Second.{other_kind, made, before_division}
use Rattle.integers.specs.Solver.{:0, :1, ◌:+◌, ◌:*◌, :-, x, y, z}
use Rattle.series.specs.Laws.{at_+ˢ, at__ˢ, div_unique, ·_assoc, ringˢ}
use Rattle.integers.specs.Whole.{ringℤ}
use Rattle.series.specs.Maps.{spread-mul, shift_from}
use Rattle.numbers.specs.Primes.{Prime, prime_pos}
use Rattle.numbers.specs.Phi.{phi-le}
use Rattle.numbers.specs.PrimeRows.{New, fewer, last_pos, row-pos, row-phi}
use Rattle.cyclotomic.specs.Family.{F-one, unit_z^_1, pair_law, only_inverse}
use Rattle.cyclotomic.specs.Degrees.{monic, monic_F, monic_I}
use Rattle.cyclotomic.specs.OnePrime.{prime_new, spread-z^_1}
use Rattle.cyclotomic.specs.Apart.{I-one}

-- a coefficient of f times z^m - 1
pub times-z^_1 : (m : ℕ) (f : Series) (i : ℕ) → (f · z^_1 m) i ≡ (z^ m · f) i ⊝ f i
unfolding z^_1
times-z^_1 m f i =
    ap (λ q. q i) (ringˢ (f ∷ z^ m ∷ []) (x :* (y :+ :- :1)) (y :* x :+ :- x) refl)
    ∙ at_+ˢ (z^ m · f) (_ˢ f) i
    ∙ ap (λ v. (z^ m · f) i ⊕ v) (at__ˢ f i)

module _ (m p : ℕ) (pos : 0 < m) (P : Prime p) (new : ¬ (p ∣ m)) where
  pub product-first : spread p (F m) · I m ≡ F (m * p) · z^_1 m
  product-first =
      ap (λ q. q · I m) (sym (prime_new p P m pos new))
      ∙ ·_assoc (F (m * p)) (F m) (I m)
      ∙ ap (λ q. F (m * p) · q) (pair_law m)

  pub product_inverse : spread p (I m) · F m ≡ I (m * p)
  product_inverse =
      only_inverse (m * p) (spread p (I m) · F m)
      (ringˢ (F (m * p) ∷ spread p (I m) ∷ F m ∷ []) (x :* (y :* z)) (x :* z :* y) refl
      ∙ ap (λ q. q · spread p (I m)) (prime_new p P m pos new)
      ∙ sym (spread-mul p (prime_pos P) (F m) (I m))
      ∙ ap (spread p) (pair_law m)
      ∙ spread-z^_1 p (prime_pos P) m)

  pub divided_first : spread p (F m) · I m ÷ z^_1 m ≡ F (m * p)
  divided_first =
      sym (div_unique (spread p (F m) · I m) (z^_1 m) (F (m * p)) (unit_z^_1 m pos) (sym product-first))

module _ (ps : List ℕ) where
  module _ (j : ℕ) (h : New ps (suc j)) where
    abbrev m : ℕ
    m = row_to ps j

    abbrev p : ℕ
    p = get_or ps j 0

    m-pos : 0 < m
    m-pos = row-pos ps j (fewer ps h)

    -- by whether the kind is F
    next : (b : Bool)
        → cond b (spread p (cond b (F m) (I m)) · cond (eqb (cond b 2 1) 1) (F m) (I m) ÷ z^_1 m)
        (spread p (cond b (F m) (I m)) · cond (eqb (cond b 2 1) 1) (F m) (I m))
        ≡ cond b (F (m * p)) (I (m * p))
    next true = let (P, new) = h j (omega arith) in divided_first m p m-pos P new
    next false = let (P, new) = h j (omega arith) in product_inverse m p m-pos P new

    product : (b : Bool) → spread p (cond b (F m) (I m)) · cond (eqb (cond b 2 1) 1) (F m) (I m)
        ≡ cond b (F (m * p) · z^_1 m) (I (m * p))
    product true = let (P, new) = h j (omega arith) in product-first m p m-pos P new
    product false = let (P, new) = h j (omega arith) in product_inverse m p m-pos P new

  pub made_is : (kind j : ℕ) → New ps j → made kind ps j ≡ polynomial kind (row_to ps j)
  unfolding made other_kind row_to polynomial
  made_is kind zero h = ap₂ (cond (eqb kind 1)) (sym F-one) (sym I-one)
  made_is kind (suc j) h =
      ap₂ (λ f g. cond (eqb kind 1) (spread (p j h) f · g ÷ z^_1 (m j h)) (spread (p j h) f · g))
      (made_is kind j (fewer ps h)) (made_is (cond (eqb kind 1) 2 1) j (fewer ps h))
      ∙ next j h (eqb kind 1)

  -- the product before the division
  pub product_is : (kind j : ℕ) → New ps (suc j)
      → before_division kind ps j ≡ cond (eqb kind 1) (F (row_to ps (suc j)) · z^_1 (row_to ps j)) (I (row_to ps (suc j)))
  unfolding before_division other_kind row_to polynomial
  product_is kind j h =
      ap₂ (λ f g. spread (p j h) f · g) (made_is kind j (fewer ps h)) (made_is (cond (eqb kind 1) 2 1) j (fewer ps h))
      ∙ product j h (eqb kind 1)

  -- ---- nothing that is made for r has a degree above r: so `definitions/Second: outside` passes nothing over
  pub made-degree : (kind j : ℕ) → New ps j → (i : ℕ) → row_to ps j < i → made kind ps j i ≡ 0ℤ
  unfolding degree
  made-degree kind j h i b =
      ap (λ f. f i) (made_is kind j h)
      ∙ (monic kind (row_to ps j) (row-pos ps j h)).above i (low (eqb kind 1))
    where
      low : (c : Bool) → suc (cond c (phi (row_to ps j)) (row_to ps j - phi (row_to ps j))) ≤ i
      low true = omega (arith, phi-le (row_to ps j))
      low false = omega arith

  pub product-degree : (kind j : ℕ) → New ps (suc j) → (i : ℕ) → row_to ps (suc j) < i → before_division kind ps j i ≡ 0ℤ
  unfolding polynomial row_to
  product-degree kind j h i b = ap (λ f. f i) (product_is kind j h) ∙ go (eqb kind 1)
    where
      r : ℕ
      r = row_to ps (suc j)

      pos : 0 < r
      pos = row-pos ps (suc j) h

      -- phi(mp) + m is at most mp
      fits : phi r + m j h ≤ r
      fits =
          let one : p j h ≡ p j h - 1 + 1 = omega (arith, last_pos ps h) in
          let whole : m j h * p j h ≡ m j h * (p j h - 1) + m j h =
          ap (λ x. m j h * x) one ∙ NatL.mul-add (m j h) (p j h - 1) 1
          ∙ ap (λ x. m j h * (p j h - 1) + x) (NatL.mul-one (m j h)) in
          omega (arith, row-phi ps j h, NatL.mul-le-mul_right (p j h - 1) (phi-le (m j h)), whole)

      go : (c : Bool) → cond c (F r · z^_1 (m j h)) (I r) i ≡ 0ℤ
      go true =
          times-z^_1 (m j h) (F r) i
          ∙ ap₂ ◌⊝◌ (shift_from (m j h) (F r) i (omega (arith, fits))
          ∙ (monic_F r pos).above (i - m j h) (omega (arith, fits)))
          ((monic_F r pos).above i (omega (arith, fits)))
          ∙ ringℤ [] (:0 :+ :- :0) :0 refl
      go false = (monic_I r pos).above i (omega arith)

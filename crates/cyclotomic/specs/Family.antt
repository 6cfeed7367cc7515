-- The family exists and is the only one. The product of F(d) over the divisors d of n is z^n - 1 for every n above 0
-- (`product_law`), and whatever family has that product law is F (`only_family`): two families with equal products over
-- the divisors are equal, since all but the factor at n itself cancel (`same-family`). F(n) I(n) = z^n - 1
-- (`pair_law`), and I(n) is the only such series (`only_inverse`).
use Rattle.std.specs.Prelude.{ℕ, zero, suc, ◌≤◌, ◌<◌, ◌≡◌, refl, Bool, true, false, cond, ◌≢◌, []}
use Rattle.std.specs.Int.{◌∣◌}
use Rattle.std.proofs.Common.{sym, ◌∙◌, ap, ap₂, arith, eq-eqb, ne_eqb}
use Rattle.std.proofs.Math.Nat as NatL
use Rattle.std.proofs.Math.Decide.{ℕ_discrete}
use Rattle.definitions.specs.Integers.{◌⊕◌, ◌⊗◌, ⊖, 1ℤ}
use Rattle.definitions.specs.Series.{Series, constant, 𝟙, _ˢ, ◌·◌, ◌÷◌, z^}
use Rattle.definitions.specs.Numbers.{divides}
use Rattle.definitions.specs.Polynomials.{product_to, at_divisors, over_divisors, z^_1, family_to, F, I}
use Rattle.integers.specs.Solver.{:1, ◌:*◌, :-}
use Rattle.integers.specs.Whole.{zero_⊕, ringℤ}
use Rattle.series.specs.Laws.{Unitˢ, at_+ˢ, at__ˢ, div-mul, div_unique, cancel, unit_mul, unit_one, unit_div, ·_assoc}
use Rattle.series.specs.Laws.{·_comm, one_·, ·_one}
use Rattle.series.specs.Maps.{off_z^}
use Rattle.numbers.specs.Folds.{Monoid, fold_to, fold_same}
use Rattle.numbers.specs.Divisors.{divisors-same}
use Rattle.numbers.specs.Tests.{strong, divides_yes}

-- ---- products of series are folds
abbrev pub times : Monoid Series
times = record { op = ◌·◌; unit = 𝟙; assoc = ·_assoc; comm = ·_comm; unit_left = one_· }

pub product-fold : (k : ℕ) (g : ℕ → Series) → product_to k g ≡ fold_to times g k
unfolding product_to fold_to
product-fold zero g = refl
product-fold (suc k) g = ap (λ q. q · g (suc k)) (product-fold k g)

pub product_same : {g h : ℕ → Series} (k : ℕ) → ((d : ℕ) → 0 < d → d ≤ k → g d ≡ h d) → product_to k g ≡ product_to k h
product_same {g} {h} k e = product-fold k g ∙ fold_same times k e ∙ sym (product-fold k h)

pub unit_product : (g : ℕ → Series) (k : ℕ) → ((d : ℕ) → 0 < d → d ≤ k → Unitˢ (g d)) → Unitˢ (product_to k g)
unfolding product_to
unit_product g zero u = unit_one
unit_product g (suc k) u =
    unit_mul (product_to k g) (g (suc k)) (unit_product g k (λ d l h. u d l (omega arith)))
    (u (suc k) (omega arith) (omega arith))

unit_cond : (b : Bool) (f : Series) → Unitˢ f → Unitˢ (cond b f 𝟙)
unit_cond true f u = u
unit_cond false f u = unit_one

pub unit_divisors : (n : ℕ) (g : ℕ → Series) (k : ℕ) → ((d : ℕ) → 0 < d → d ≤ k → Unitˢ (g d))
    → Unitˢ (product_to k (at_divisors n g))
unfolding at_divisors
unit_divisors n g k u = unit_product (at_divisors n g) k (λ d l h. unit_cond (divides d n) (g d) (u d l h))

pub over_same : {g h : ℕ → Series} (n k : ℕ) → ((d : ℕ) → 0 < d → d ≤ k → d ∣ n → g d ≡ h d)
    → product_to k (at_divisors n g) ≡ product_to k (at_divisors n h)
unfolding at_divisors
over_same {g} {h} n k e =
    product-fold k (at_divisors n g) ∙ divisors-same times n g h k e ∙ sym (product-fold k (at_divisors n h))

-- the factor at n itself stands last
pub last_divisor : (k : ℕ) (g : ℕ → Series) → over_divisors (suc k) g ≡ product_to k (at_divisors (suc k) g) · g (suc k)
unfolding over_divisors product_to at_divisors
last_divisor k g =
    ap (λ b. product_to k (at_divisors (suc k) g) · cond b (g (suc k)) 𝟙)
    (divides_yes (suc k) (suc k) (NatL.dvd_refl (suc k)))

-- ---- z^n - 1 is a unit
pub z^_1_zero : (n : ℕ) → 0 < n → z^_1 n zero ≡ ⊖ 1ℤ
unfolding z^_1 constant
z^_1_zero n h =
    at_+ˢ (z^ n) (_ˢ 𝟙) zero ∙ ap₂ ◌⊕◌ (off_z^ n zero (λ e. omega arith)) (at__ˢ 𝟙 zero) ∙ zero_⊕ (⊖ 1ℤ)

pub unit_z^_1 : (n : ℕ) → 0 < n → Unitˢ (z^_1 n)
unit_z^_1 n h = ap (λ a. a ⊗ a) (z^_1_zero n h) ∙ ringℤ [] (:- :1 :* :- :1) :1 refl

-- ---- the family, one after the other
stays : (k d : ℕ) → d ≢ suc k → family_to (suc k) d ≡ family_to k d
unfolding family_to
stays k d e = rw (ne_eqb d (suc k) e)

made : (k : ℕ) → family_to (suc k) (suc k) ≡ z^_1 (suc k) ÷ product_to k (at_divisors (suc k) (family_to k))
unfolding family_to
made k = rw (eq-eqb (suc k) (suc k) refl)

-- F(d) stands in the family from d on
kept : (k d : ℕ) → d ≤ k → family_to k d ≡ F d
unfolding F
kept zero d h = let e : d ≡ 0 = omega arith in rw e
kept (suc k) d h = go (ℕ_discrete d (suc k)) (λ l. kept k d l)
  where
    go : Dec (d ≡ suc k) → (d ≤ k → family_to k d ≡ family_to d d) → family_to (suc k) d ≡ family_to d d
    go (yes e) ih = ap (λ n. family_to n d) (sym e)
    go (no e) ih = stays k d e ∙ ih (omega arith)

pub F-zero : F 0 ≡ 𝟙
unfolding F family_to
F-zero = refl

pub F-suc : (k : ℕ) → F (suc k) ≡ z^_1 (suc k) ÷ product_to k (at_divisors (suc k) F)
F-suc k =
    sym (kept (suc k) (suc k) (NatL.le_refl (suc k))) ∙ made k
    ∙ ap (λ q. z^_1 (suc k) ÷ q) (over_same (suc k) k (λ d l h v. kept k d h))

pub F-one : F 1 ≡ z^_1 1
unfolding product_to
F-one = F-suc 0 ∙ sym (div_unique (z^_1 1) 𝟙 (z^_1 1) unit_one (·_one (z^_1 1)))

pub unit_F : (n : ℕ) → Unitˢ (F n)
unit_F = strong (λ n. Unitˢ (F n)) step
  where
    step : (n : ℕ) → ((m : ℕ) → m < n → Unitˢ (F m)) → Unitˢ (F n)
    step zero ih = rw F-zero unit_one
    step (suc k) ih =
        rw (F-suc k)
        (unit_div (z^_1 (suc k)) (product_to k (at_divisors (suc k) F)) (unit_z^_1 (suc k) (omega arith))
        (unit_divisors (suc k) F k (λ d l h. ih d (omega arith))))

-- the product of F(d) over all divisors d of n is z^n - 1
pub product_law : (n : ℕ) → 0 < n → over_divisors n F ≡ z^_1 n
product_law zero h = absurd (NatL.not-suc-le-zero h)
product_law (suc k) h =
    last_divisor k F ∙ ·_comm (product_to k (at_divisors (suc k) F)) (F (suc k))
    ∙ ap (λ q. q · product_to k (at_divisors (suc k) F)) (F-suc k)
    ∙ div-mul (z^_1 (suc k)) (product_to k (at_divisors (suc k) F)) (unit_divisors (suc k) F k (λ d l u. unit_F d))

-- ---- it is the only one
pub same-family :
    (G H : ℕ → Series)
    → ((n : ℕ) → 0 < n → Unitˢ (H n))
    → ((n : ℕ) → 0 < n → over_divisors n G ≡ over_divisors n H)
    → (n : ℕ) → 0 < n → G n ≡ H n
same-family G H u e = strong (λ n. 0 < n → G n ≡ H n) step
  where
    step : (n : ℕ) → ((m : ℕ) → m < n → 0 < m → G m ≡ H m) → 0 < n → G n ≡ H n
    step zero ih h = absurd (NatL.not-suc-le-zero h)
    step (suc k) ih h =
        cancel (G (suc k)) (H (suc k)) (product_to k (at_divisors (suc k) H)) (unit_divisors (suc k) H k (λ d l b. u d l))
        (·_comm (G (suc k)) (product_to k (at_divisors (suc k) H))
        ∙ ap (λ q. q · G (suc k)) (sym (over_same (suc k) k (λ d l b v. ih d (omega arith) l)))
        ∙ sym (last_divisor k G) ∙ e (suc k) h ∙ last_divisor k H
        ∙ ·_comm (product_to k (at_divisors (suc k) H)) (H (suc k)))

pub only_family : (G : ℕ → Series) → ((n : ℕ) → 0 < n → over_divisors n G ≡ z^_1 n) → (n : ℕ) → 0 < n → G n ≡ F n
only_family G e = same-family G F (λ n h. unit_F n) (λ n h. e n h ∙ sym (product_law n h))

-- ---- the inverse kind
pub pair_law : (n : ℕ) → F n · I n ≡ z^_1 n
unfolding I
pair_law n = ·_comm (F n) (z^_1 n ÷ F n) ∙ div-mul (z^_1 n) (F n) (unit_F n)

pub only_inverse : (n : ℕ) (g : Series) → F n · g ≡ z^_1 n → g ≡ I n
unfolding I
only_inverse n g e = div_unique (z^_1 n) (F n) g (unit_F n) (·_comm g (F n) ∙ e)

pub unit_I : (n : ℕ) → 0 < n → Unitˢ (I n)
unfolding I
unit_I n h = unit_div (z^_1 n) (F n) (unit_z^_1 n h) (unit_F n)

-- I(n) is the product of F(d) over the divisors d below n
pub inverse_product : (k : ℕ) → I (suc k) ≡ product_to k (at_divisors (suc k) F)
inverse_product k =
    sym
    (only_inverse (suc k) (product_to k (at_divisors (suc k) F))
    (·_comm (F (suc k)) (product_to k (at_divisors (suc k) F)) ∙ sym (last_divisor k F)
    ∙ product_law (suc k) (omega arith)))

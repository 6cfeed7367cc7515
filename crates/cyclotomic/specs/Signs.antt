-- Two families that agree up to sign at 1 and grow by the same law agree above 1. The law is that of a new prime, X(np)
-- X(n) = X(n) with z^p for z: the sign stands on both sides of X(np) (±Y(n)) = ± Y(np) Y(n), and cancels (`sign-step`).
use Rattle.std.specs.Prelude.{ℕ, ◌<◌, ◌≡◌, refl, ◌≢◌, [], ◌∷◌, ℤ}
use Rattle.std.proofs.Common.{sym, ◌∙◌, ap}
use Rattle.definitions.specs.Integers.{◌⊗◌, ⊖, 1ℤ}
use Rattle.definitions.specs.Series.{Series, constant, _ˢ, ◌·◌, spread}
use Rattle.integers.specs.Solver.{:1, ◌:*◌, :-, x, y, z}
use Rattle.integers.specs.Whole.{⊗_one, ringℤ}
use Rattle.series.specs.Laws.{Unitˢ, cancel, unit_mul, one_·, ringˢ, constants_neg}
use Rattle.series.specs.Maps.{spread-mul, spread-constant}

-- X is Y or -Y, and Y where n is not 1
pub record Signed (n : ℕ) (X Y : Series) : Type 0 where
  pub sign : ℤ
  pub square : sign ⊗ sign ≡ 1ℤ
  pub plus : n ≢ 1 → sign ≡ 1ℤ
  pub equal : X ≡ constant sign · Y

pub unsigned : {n : ℕ} {X Y : Series} → Signed n X Y → n ≢ 1 → X ≡ Y
unsigned {Y} s h = s.equal ∙ ap (λ a. constant a · Y) (s.plus h) ∙ one_· Y

pub signed : {n : ℕ} {X Y : Series} → X ≡ Y → Signed n X Y
signed {Y} e = record { sign = 1ℤ; square = ⊗_one 1ℤ; plus = λ h. refl; equal = e ∙ sym (one_· Y) }

pub minus_one : {X Y : Series} → X ≡ _ˢ Y → Signed 1 X Y
minus_one {Y} e =
    record {
      sign = ⊖ 1ℤ;
      square = ringℤ [] (:- :1 :* :- :1) :1 refl;
      plus = λ h. absurd (h refl);
      equal = e ∙ sym (minus_mul Y);
    }
  where
    minus_mul : (f : Series) → constant (⊖ 1ℤ) · f ≡ _ˢ f
    minus_mul f = ap (λ c. c · f) (constants_neg 1ℤ) ∙ ringˢ (f ∷ []) (:- :1 :* x) (:- x) refl

pub sign-step :
    (n p : ℕ) → 0 < p → (X X' Y Y' : Series) → Unitˢ Y → X' · X ≡ spread p X → Y' · Y ≡ spread p Y → Signed n X Y
    → X' ≡ Y'
unfolding constant
sign-step n p l X X' Y Y' u a b s =
    cancel X' Y' (constant s.sign · Y) (unit_mul (constant s.sign) Y s.square u)
    (ap (λ q. X' · q) (sym s.equal) ∙ a ∙ ap (spread p) s.equal
    ∙ spread-mul p l (constant s.sign) Y ∙ ap (λ q. q · spread p Y) (spread-constant p l s.sign)
    ∙ ap (λ q. constant s.sign · q) (sym b)
    ∙ ringˢ (constant s.sign ∷ Y' ∷ Y ∷ []) (x :* (y :* z)) (y :* (x :* z)) refl)

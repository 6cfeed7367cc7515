-- The power series are a commutative ring. A product recurses on its first factor; the recursion on the second
-- (`mul-suc-right`) gives commutativity, and scaling gives associativity. Each law holds degree by degree, so the
-- series are equal.
use Rattle.std.specs.Prelude.{ℕ, zero, suc, ◌≤◌, ◌<◌, ◌≡◌, refl, List, [], ◌∷◌, ℤ}
use Rattle.std.proofs.Common.{sym, ◌∙◌, ap, ap₂, arith}
use Rattle.std.proofs.Math.Path.{fun_ext}
use Rattle.definitions.specs.Integers.{◌⊕◌, ◌⊗◌, ⊖, ◌⊝◌, 0ℤ, 1ℤ}
use Rattle.definitions.specs.Series.{Series, tail, constant, 𝟘, 𝟙, ◌+ˢ◌, _ˢ, ◌·◌, ◌÷◌}
use Rattle.integers.specs.Ring.{Ring}
use Rattle.integers.specs.Solver.{Expr, ◌:+◌, ◌:*◌, :-, x, y, z, w, u, normal, eval, ring}
use Rattle.integers.specs.Whole.{⊕_assoc, ⊕_comm, ⊕_zero, ⊕_neg, ⊗_comm, ⊗_zero, zero_⊗, one_⊗, ⊗_one, ⊖-zero, ringℤ}

mul-suc-right : (f g : Series) (n : ℕ) → (f · g) (suc n) ≡ (f · tail g) n ⊕ f (suc n) ⊗ g zero
unfolding ◌·◌
mul-suc-right f g zero = refl
mul-suc-right f g (suc n) =
    ap (λ a. f zero ⊗ g (suc (suc n)) ⊕ a) (mul-suc-right (tail f) g n)
    ∙ sym (⊕_assoc (f zero ⊗ g (suc (suc n))) ((tail f · tail g) n) (f (suc (suc n)) ⊗ g zero))

mul_comm_at : (f g : Series) (n : ℕ) → (f · g) n ≡ (g · f) n
unfolding ◌·◌
mul_comm_at f g zero = ⊗_comm (f zero) (g zero)
mul_comm_at f g (suc n) =
    mul-suc-right f g n ∙ ap₂ ◌⊕◌ (mul_comm_at f (tail g) n) (⊗_comm (f (suc n)) (g zero))
    ∙ ⊕_comm ((tail g · f) n) (g zero ⊗ f (suc n))

mul-add_at : (f g h : Series) (n : ℕ) → (f · (g +ˢ h)) n ≡ (f · g) n ⊕ (f · h) n
unfolding ◌·◌ ◌+ˢ◌
mul-add_at f g h zero = ringℤ (f zero ∷ g zero ∷ h zero ∷ []) (x :* (y :+ z)) (x :* y :+ x :* z) refl
mul-add_at f g h (suc n) =
    ap (λ a. f zero ⊗ (g (suc n) ⊕ h (suc n)) ⊕ a) (mul-add_at (tail f) g h n)
    ∙ ringℤ (f zero ∷ g (suc n) ∷ h (suc n) ∷ (tail f · g) n ∷ (tail f · h) n ∷ [])
    (x :* (y :+ z) :+ (w :+ u)) (x :* y :+ w :+ (x :* z :+ u)) refl

-- f times a whole number
unfoldable pub scale : ℤ → Series → Series
scale a f i = a ⊗ f i

scale-mul_at : (a : ℤ) (f g : Series) (n : ℕ) → (scale a f · g) n ≡ a ⊗ (f · g) n
unfolding ◌·◌ scale
scale-mul_at a f g zero = ringℤ (a ∷ f zero ∷ g zero ∷ []) (x :* y :* z) (x :* (y :* z)) refl
scale-mul_at a f g (suc n) =
    ap (λ b. a ⊗ f zero ⊗ g (suc n) ⊕ b) (scale-mul_at a (tail f) g n)
    ∙ ringℤ (a ∷ f zero ∷ g (suc n) ∷ (tail f · g) n ∷ []) (x :* y :* z :+ x :* w) (x :* (y :* z :+ w)) refl

add-mul_at : (f g h : Series) (n : ℕ) → ((f +ˢ g) · h) n ≡ (f · h) n ⊕ (g · h) n
add-mul_at f g h n =
    mul_comm_at (f +ˢ g) h n ∙ mul-add_at h f g n ∙ ap₂ ◌⊕◌ (mul_comm_at h f n) (mul_comm_at h g n)

-- the tail of a product
pub tail-mul : (f g : Series) → tail (f · g) ≡ scale (f zero) (tail g) +ˢ tail f · g
unfolding ◌·◌ scale ◌+ˢ◌
tail-mul f g = refl

mul_assoc_at : (f g h : Series) (n : ℕ) → (f · g · h) n ≡ (f · (g · h)) n
unfolding ◌·◌
mul_assoc_at f g h zero = ringℤ (f zero ∷ g zero ∷ h zero ∷ []) (x :* y :* z) (x :* (y :* z)) refl
mul_assoc_at f g h (suc n) =
    ap (λ a. f zero ⊗ g zero ⊗ h (suc n) ⊕ a)
    (ap (λ s. (s · h) n) (tail-mul f g) ∙ add-mul_at (scale (f zero) (tail g)) (tail f · g) h n
    ∙ ap₂ ◌⊕◌ (scale-mul_at (f zero) (tail g) h n) (mul_assoc_at (tail f) g h n))
    ∙ ringℤ (f zero ∷ g zero ∷ h (suc n) ∷ (tail g · h) n ∷ (tail f · (g · h)) n ∷ [])
    (x :* y :* z :+ (x :* w :+ u)) (x :* (y :* z :+ w) :+ u) refl

zero_at : (i : ℕ) → 𝟘 i ≡ 0ℤ
unfolding constant
zero_at zero = refl
zero_at (suc i) = refl

none-mul_at : (f : Series) (n : ℕ) → ((λ i. 0ℤ) · f) n ≡ 0ℤ
unfolding ◌·◌
none-mul_at f zero = zero_⊗ (f zero)
none-mul_at f (suc n) = ap₂ ◌⊕◌ (zero_⊗ (f (suc n))) (none-mul_at f n) ∙ ⊕_zero 0ℤ

pub constant-mul : (a : ℤ) (f : Series) (n : ℕ) → (constant a · f) n ≡ a ⊗ f n
unfolding ◌·◌ constant
constant-mul a f zero = refl
constant-mul a f (suc n) = ap (λ b. a ⊗ f (suc n) ⊕ b) (none-mul_at f n) ∙ ⊕_zero (a ⊗ f (suc n))

pub constants_mul : (a b : ℤ) → constant (a ⊗ b) ≡ constant a · constant b
unfolding constant
constants_mul a b = fun_ext (λ n. at n ∙ sym (constant-mul a (constant b) n))
  where
    at : (n : ℕ) → constant (a ⊗ b) n ≡ a ⊗ constant b n
    at zero = refl
    at (suc n) = sym (⊗_zero a)

pub constants_add : (a b : ℤ) → constant (a ⊕ b) ≡ constant a +ˢ constant b
unfolding ◌+ˢ◌ constant
constants_add a b = fun_ext (at)
  where
    at : (n : ℕ) → constant (a ⊕ b) n ≡ constant a n ⊕ constant b n
    at zero = refl
    at (suc n) = sym (⊕_zero 0ℤ)

pub constants_neg : (a : ℤ) → constant (⊖ a) ≡ _ˢ (constant a)
unfolding _ˢ constant
constants_neg a = fun_ext (at)
  where
    at : (n : ℕ) → constant (⊖ a) n ≡ ⊖ (constant a n)
    at zero = refl
    at (suc n) = sym ⊖-zero

pub constant-above : (a : ℤ) (i : ℕ) → 0 < i → constant a i ≡ 0ℤ
unfolding constant
constant-above a zero l = absurd (omega arith)
constant-above a (suc i) l = refl

-- ---- the ring
pub +ˢ_assoc : (f g h : Series) → f +ˢ g +ˢ h ≡ f +ˢ (g +ˢ h)
unfolding ◌+ˢ◌
+ˢ_assoc f g h = fun_ext (λ i. ⊕_assoc (f i) (g i) (h i))

pub +ˢ_comm : (f g : Series) → f +ˢ g ≡ g +ˢ f
unfolding ◌+ˢ◌
+ˢ_comm f g = fun_ext (λ i. ⊕_comm (f i) (g i))

pub +ˢ_zero : (f : Series) → f +ˢ 𝟘 ≡ f
unfolding ◌+ˢ◌
+ˢ_zero f = fun_ext (λ i. ap (λ a. f i ⊕ a) (zero_at i) ∙ ⊕_zero (f i))

pub +ˢ_neg : (f : Series) → f +ˢ _ˢ f ≡ 𝟘
unfolding ◌+ˢ◌ _ˢ
+ˢ_neg f = fun_ext (λ i. ⊕_neg (f i) ∙ sym (zero_at i))

pub ·_assoc : (f g h : Series) → f · g · h ≡ f · (g · h)
·_assoc f g h = fun_ext (mul_assoc_at f g h)

pub ·_comm : (f g : Series) → f · g ≡ g · f
·_comm f g = fun_ext (mul_comm_at f g)

pub one_· : (f : Series) → 𝟙 · f ≡ f
one_· f = fun_ext (λ n. constant-mul 1ℤ f n ∙ one_⊗ (f n))

pub ·_one : (f : Series) → f · 𝟙 ≡ f
·_one f = ·_comm f 𝟙 ∙ one_· f

pub ·_+ˢ : (f g h : Series) → f · (g +ˢ h) ≡ f · g +ˢ f · h
·_+ˢ f g h = fun_ext (λ i. mul-add_at f g h i ∙ (unfold ◌+ˢ◌ in refl))

abbrev pub series_ring : Ring
series_ring =
    record {
      Carrier = Series;
      zero = 𝟘;
      one = 𝟙;
      add = ◌+ˢ◌;
      mul = ◌·◌;
      neg = _ˢ;
      add_assoc = +ˢ_assoc;
      add_comm = +ˢ_comm;
      add-zero = +ˢ_zero;
      add-neg = +ˢ_neg;
      mul_assoc = ·_assoc;
      mul_comm = ·_comm;
      mul-one = ·_one;
      mul-add = ·_+ˢ;
    }

-- ring equations between series
pub ringˢ : (values : List Series) (a b : Expr) → normal a ≡ normal b → eval series_ring values a
    ≡ eval series_ring values b
ringˢ values a b e = ring series_ring values a b e

pub ·_left_comm : (f g h : Series) → f · (g · h) ≡ g · (f · h)
·_left_comm f g h = ringˢ (f ∷ g ∷ h ∷ []) (x :* (y :* z)) (y :* (x :* z)) refl

-- ---- coefficients of sums and products
pub at_+ˢ : (f g : Series) (i : ℕ) → (f +ˢ g) i ≡ f i ⊕ g i
unfolding ◌+ˢ◌
at_+ˢ f g i = refl

pub at__ˢ : (f : Series) (i : ℕ) → (_ˢ f) i ≡ ⊖ (f i)
unfolding _ˢ
at__ˢ f i = refl

pub at_𝟘 : (i : ℕ) → 𝟘 i ≡ 0ℤ
at_𝟘 i = zero_at i

pub at_mul-zero : (f g : Series) → (f · g) zero ≡ f zero ⊗ g zero
unfolding ◌·◌
at_mul-zero f g = refl

pub at_mul-suc : (f g : Series) (i : ℕ) → (f · g) (suc i) ≡ f zero ⊗ g (suc i) ⊕ (tail f · g) i
unfolding ◌·◌
at_mul-suc f g i = refl

-- a product's coefficient at n depends on the factor's coefficients up to n alone
pub agree_mul : (n : ℕ) (f g h : Series) → ((i : ℕ) → i ≤ n → g i ≡ h i) → (f · g) n ≡ (f · h) n
unfolding ◌·◌
agree_mul zero f g h e = ap (λ a. f zero ⊗ a) (e zero (omega arith))
agree_mul (suc n) f g h e =
    ap₂ (λ a b. f zero ⊗ a ⊕ b) (e (suc n) (omega arith)) (agree_mul n (tail f) g h (λ i k. e i (omega arith)))

-- ---- units: a series that starts with 1 or -1 can be divided by, and cancelled
abbrev pub Unitˢ : Series → Type 0
Unitˢ f = f zero ⊗ f zero ≡ 1ℤ

div-mul_at : (n : ℕ) (f g : Series) → Unitˢ g → ((f ÷ g) · g) n ≡ f n
unfolding ◌·◌ ◌÷◌
div-mul_at zero f g e =
    ringℤ (f zero ∷ g zero ∷ []) (x :* y :* y) (x :* (y :* y)) refl ∙ ap (λ a. f zero ⊗ a) e ∙ ⊗_one (f zero)
div-mul_at (suc n) f g e =
    ap (λ a. f zero ⊗ g zero ⊗ g (suc n) ⊕ a) (div-mul_at n (λ j. f (suc j) ⊝ f zero ⊗ g zero ⊗ g (suc j)) g e)
    ∙ ringℤ (f zero ∷ g zero ∷ g (suc n) ∷ f (suc n) ∷ []) (x :* y :* z :+ (w :+ :- (x :* y :* z))) w refl

pub div-mul : (f g : Series) → Unitˢ g → f ÷ g · g ≡ f
div-mul f g e = fun_ext (λ n. div-mul_at n f g e)

pub cancel : (f g h : Series) → Unitˢ h → f · h ≡ g · h → f ≡ g
cancel f g h e p =
    sym (undo f) ∙ ap (λ s. s · (𝟙 ÷ h)) p ∙ undo g
  where
    undo : (s : Series) → s · h · (𝟙 ÷ h) ≡ s
    undo s =
        ringˢ (s ∷ h ∷ (𝟙 ÷ h) ∷ []) (x :* y :* z) (x :* (z :* y)) refl ∙ ap (λ q. s · q) (div-mul 𝟙 h e) ∙ ·_one s

-- the quotient is the only series that gives f back
pub div_unique : (f g q : Series) → Unitˢ g → q · g ≡ f → q ≡ f ÷ g
div_unique f g q e p = cancel q (f ÷ g) g e (p ∙ sym (div-mul f g e))

pub unit_mul : (f g : Series) → Unitˢ f → Unitˢ g → Unitˢ (f · g)
unfolding ◌·◌
unit_mul f g a b =
    ringℤ (f zero ∷ g zero ∷ []) (x :* y :* (x :* y)) (x :* x :* (y :* y)) refl ∙ ap₂ ◌⊗◌ a b ∙ ⊗_one 1ℤ

pub unit_one : Unitˢ 𝟙
unfolding constant
unit_one = ⊗_one 1ℤ

pub unit_neg : (f : Series) → Unitˢ f → Unitˢ (_ˢ f)
unfolding _ˢ
unit_neg f e = ringℤ (f zero ∷ []) (:- x :* :- x) (x :* x) refl ∙ e

-- a factor of a unit is a unit
pub unit_div : (f g : Series) → Unitˢ f → Unitˢ g → Unitˢ (f ÷ g)
unfolding ◌÷◌
unit_div f g a b =
    ringℤ (f zero ∷ g zero ∷ []) (x :* y :* (x :* y)) (x :* x :* (y :* y)) refl ∙ ap₂ ◌⊗◌ a b ∙ ⊗_one 1ℤ

-- a whole number comes out of either factor
pub scale-mul : (f : Series) (a : ℤ) (g : Series) (i : ℕ) → (f · scale a g) i ≡ a ⊗ (f · g) i
scale-mul f a g i = mul_comm_at f (scale a g) i ∙ scale-mul_at a g f i ∙ ap (λ q. a ⊗ q) (mul_comm_at g f i)

-- ℤ is a commutative ring without zero divisors. The kit has the sum's laws and that the product is commutative;
-- distributivity and associativity of the product go by successor and predecessor.
use Rattle.std.specs.Prelude.{ℕ, zero, suc, ◌+◌, ◌*◌, ◌≡◌, refl, ◌≢◌, List, [], ◌∷◌, ℤ, pos, negsuc, neg_ℤ, ◌+ℤ◌, ◌*ℤ◌}
use Rattle.std.proofs.Common.{sym, ◌∙◌, ap, ap₂, arith}
use Rattle.std.proofs.Math.IntN.{suc_ℤ, pred_ℤ, one, ℤ_discrete, +ℤ_assoc, +ℤ_comm, +ℤ_idl, +ℤ_idr, +ℤ_invr, suc_ℤ-+ℤ, pred_ℤ-+ℤ, *ℤ_comm, neg_ℤ-neg_ℤ, *ℤ-one, zero-*ℤ, suc_ℤ-*ℤ, pred_ℤ-*ℤ}
use Rattle.definitions.specs.Integers.{◌⊕◌, ◌⊗◌, ⊖, 0ℤ, 1ℤ}
use Rattle.integers.specs.Ring.{Ring}
use Rattle.integers.specs.Solver.{Expr, :0, :1, ◌:+◌, ◌:*◌, :-, x, normal, eval, ring}

-- (a + b) + c and (a + c) + b
swap_last : (a b c : ℤ) → a +ℤ b +ℤ c ≡ a +ℤ c +ℤ b
swap_last a b c = +ℤ_assoc a b c ∙ ap (λ d. a +ℤ d) (+ℤ_comm b c) ∙ sym (+ℤ_assoc a c b)

-- what holds at a holds one up and one down, so it holds everywhere from 0 on
by_one : (P : ℤ → Type 0) → P (pos zero) → ((a : ℤ) → P a → P (suc_ℤ a)) → ((a : ℤ) → P a → P (pred_ℤ a)) → (a : ℤ) → P a
by_one P base up down (pos zero) = base
by_one P base up down (pos (suc n)) = up (pos n) (by_one P base up down (pos n))
by_one P base up down (negsuc zero) = down (pos zero) base
by_one P base up down (negsuc (suc n)) = down (negsuc n) (by_one P base up down (negsuc n))

add-mul : (a b c : ℤ) → (a +ℤ b) *ℤ c ≡ a *ℤ c +ℤ b *ℤ c
add-mul a b c =
    by_one (λ a. (a +ℤ b) *ℤ c ≡ a *ℤ c +ℤ b *ℤ c)
    (ap (λ d. d *ℤ c) (+ℤ_idl b) ∙ sym (ap (λ d. d +ℤ b *ℤ c) (zero-*ℤ c) ∙ +ℤ_idl (b *ℤ c)))
    (λ a e. ap (λ d. d *ℤ c) (suc_ℤ-+ℤ a b) ∙ suc_ℤ-*ℤ (a +ℤ b) c ∙ ap (λ d. d +ℤ c) e ∙ swap_last (a *ℤ c) (b *ℤ c) c
    ∙ ap (λ d. d +ℤ b *ℤ c) (sym (suc_ℤ-*ℤ a c)))
    (λ a e. ap (λ d. d *ℤ c) (pred_ℤ-+ℤ a b) ∙ pred_ℤ-*ℤ (a +ℤ b) c ∙ ap (λ d. d +ℤ neg_ℤ c) e
    ∙ swap_last (a *ℤ c) (b *ℤ c) (neg_ℤ c) ∙ ap (λ d. d +ℤ b *ℤ c) (sym (pred_ℤ-*ℤ a c)))
    a

neg-mul : (a b : ℤ) → neg_ℤ a *ℤ b ≡ neg_ℤ (a *ℤ b)
neg-mul (pos zero) b = zero-*ℤ b ∙ sym (ap neg_ℤ (zero-*ℤ b))
neg-mul (pos (suc n)) (pos m) = refl
neg-mul (pos (suc n)) (negsuc m) = sym (neg_ℤ-neg_ℤ (pos (suc n * suc m)))
neg-mul (negsuc n) (pos m) = sym (neg_ℤ-neg_ℤ (pos (suc n * m)))
neg-mul (negsuc n) (negsuc m) = refl

mul_assoc : (a b c : ℤ) → a *ℤ b *ℤ c ≡ a *ℤ (b *ℤ c)
mul_assoc a b c =
    by_one (λ a. a *ℤ b *ℤ c ≡ a *ℤ (b *ℤ c))
    (ap (λ d. d *ℤ c) (zero-*ℤ b) ∙ zero-*ℤ c ∙ sym (zero-*ℤ (b *ℤ c)))
    (λ a e. ap (λ d. d *ℤ c) (suc_ℤ-*ℤ a b) ∙ add-mul (a *ℤ b) b c ∙ ap (λ d. d +ℤ b *ℤ c) e ∙ sym (suc_ℤ-*ℤ a (b *ℤ c)))
    (λ a e. ap (λ d. d *ℤ c) (pred_ℤ-*ℤ a b) ∙ add-mul (a *ℤ b) (neg_ℤ b) c ∙ ap₂ ◌+ℤ◌ e (neg-mul b c)
    ∙ sym (pred_ℤ-*ℤ a (b *ℤ c)))
    a

-- the laws, of the shut operations
pub ⊕_assoc : (a b c : ℤ) → a ⊕ b ⊕ c ≡ a ⊕ (b ⊕ c)
unfolding ◌⊕◌
⊕_assoc a b c = +ℤ_assoc a b c

pub ⊕_comm : (a b : ℤ) → a ⊕ b ≡ b ⊕ a
unfolding ◌⊕◌
⊕_comm a b = +ℤ_comm a b

pub ⊕_zero : (a : ℤ) → a ⊕ 0ℤ ≡ a
unfolding ◌⊕◌
⊕_zero a = +ℤ_idr a

pub ⊕_neg : (a : ℤ) → a ⊕ ⊖ a ≡ 0ℤ
unfolding ◌⊕◌ ⊖
⊕_neg a = +ℤ_invr a

pub ⊗_assoc : (a b c : ℤ) → a ⊗ b ⊗ c ≡ a ⊗ (b ⊗ c)
unfolding ◌⊗◌
⊗_assoc a b c = mul_assoc a b c

pub ⊗_comm : (a b : ℤ) → a ⊗ b ≡ b ⊗ a
unfolding ◌⊗◌
⊗_comm a b = *ℤ_comm a b

pub ⊗_one : (a : ℤ) → a ⊗ 1ℤ ≡ a
unfolding ◌⊗◌ one
⊗_one a = *ℤ-one a

pub ⊗_⊕ : (a b c : ℤ) → a ⊗ (b ⊕ c) ≡ a ⊗ b ⊕ a ⊗ c
unfolding ◌⊕◌ ◌⊗◌
⊗_⊕ a b c = *ℤ_comm a (b +ℤ c) ∙ add-mul b c a ∙ ap₂ ◌+ℤ◌ (*ℤ_comm b a) (*ℤ_comm c a)

abbrev pub ℤ_ring : Ring
ℤ_ring =
    record {
      Carrier = ℤ;
      zero = 0ℤ;
      one = 1ℤ;
      add = ◌⊕◌;
      mul = ◌⊗◌;
      neg = ⊖;
      add_assoc = ⊕_assoc;
      add_comm = ⊕_comm;
      add-zero = ⊕_zero;
      add-neg = ⊕_neg;
      mul_assoc = ⊗_assoc;
      mul_comm = ⊗_comm;
      mul-one = ⊗_one;
      mul-add = ⊗_⊕;
    }

-- ring equations between whole numbers
pub ringℤ : (values : List ℤ) (a b : Expr) → normal a ≡ normal b → eval ℤ_ring values a ≡ eval ℤ_ring values b
ringℤ values a b e = ring ℤ_ring values a b e

pub ⊗_zero : (a : ℤ) → a ⊗ 0ℤ ≡ 0ℤ
⊗_zero a = ringℤ (a ∷ []) (x :* :0) :0 refl

pub zero_⊗ : (a : ℤ) → 0ℤ ⊗ a ≡ 0ℤ
zero_⊗ a = ringℤ (a ∷ []) (:0 :* x) :0 refl

pub zero_⊕ : (a : ℤ) → 0ℤ ⊕ a ≡ a
zero_⊕ a = ringℤ (a ∷ []) (:0 :+ x) x refl

pub one_⊗ : (a : ℤ) → 1ℤ ⊗ a ≡ a
one_⊗ a = ringℤ (a ∷ []) (:1 :* x) x refl

pub ⊖-zero : ⊖ 0ℤ ≡ 0ℤ
⊖-zero = ringℤ [] (:- :0) :0 refl

-- a product is 0 only where a factor is
product-zero : (a b : ℕ) → suc a * suc b ≡ 0 → ⊥
product-zero a b e = omega arith

neg-pos : (n : ℕ) → neg_ℤ (pos n) ≡ pos 0 → n ≡ 0
neg-pos zero e = refl
neg-pos (suc n) e = cc

pub no_divisors : (a b : ℤ) → a ≢ 0ℤ → a ⊗ b ≡ 0ℤ → b ≡ 0ℤ
unfolding ◌⊗◌
no_divisors a (pos zero) h e = refl
no_divisors (pos zero) (pos (suc m)) h e = absurd (h refl)
no_divisors (pos (suc n)) (pos (suc m)) h e = absurd (product-zero n m (cc))
no_divisors (negsuc n) (pos (suc m)) h e = absurd (product-zero n m (neg-pos (suc n * suc m) e))
no_divisors (pos zero) (negsuc m) h e = absurd (h refl)
no_divisors (pos (suc n)) (negsuc m) h e = absurd (product-zero n m (neg-pos (suc n * suc m) e))
no_divisors (negsuc n) (negsuc m) h e = absurd (product-zero n m (cc))

pub 1≢0 : 1ℤ ≢ 0ℤ
1≢0 e = let n : ◌≡◌ {A = ℕ} 1 0 = cc in omega arith

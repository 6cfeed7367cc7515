-- An f64 that holds a whole number, be a zero's sign what it may (`Holds`). As far as 2^53 such hold the sum, the
-- difference and the product of what they held (`holds_add`, `holds_sub`, `holds_mul`): the operation gives a fraction
-- that is that whole number, equal fractions round alike, and a whole number so small rounds to itself. Two that hold
-- the same number compare equal (`holds_eq`).
use Rattle.std.specs.Prelude.{◌≡◌, refl, Bool, true, false, not, cond, ◌&&◌, ◌||◌, [], ◌∷◌, ℕ, suc, ◌+◌, ◌-◌, ◌*◌, ◌^◌, ◌≤◌, ◌<◌, T, ltb, eqb, ℤ, pos, negsuc, nat_abs, Float}
use Rattle.std.proofs.Common.{sym, ap, ap₂, ◌∙◌, subst, mul_assoc, mul_comm, mul-one, mul-pos, add-mul, zero-mul, le_of_lt, mul-lt-mul_of_pos_right, mul-le-mul_right, arith, lt-ltb, le-ltb}
use Rattle.std.specs.Bool.{beq}
use Rattle.std.proofs.Math.Bool.{and-true, and-false}
use Rattle.std.proofs.Math.Nat.{mul-mul-mul_comm, mul-sub}
use Rattle.std.proofs.Math.Dec.{eqb_refl}
use Rattle.std.specs.Float.{nan, inf, fin, binary64}
use Rattle.std.specs.Float.Ieee.{up, down, unlike, round, neg, sum, add, sub, mul, eq, level, of_int}
use Rattle.std.specs.Float.Ieee.Exact.{HasValue}
use Rattle.std.specs.Float.Ieee.Fits.{down_pos, and_i}
use Rattle.std.specs.Float.Ieee.Back.{round_whole}
use Rattle.std.specs.Float.Ieee.Scale.{round_same}
use Rattle.definitions.specs.Integers.{◌⊕◌, ◌⊗◌, ⊖, ◌⊝◌, 0ℤ}
use Rattle.integers.specs.Solver.{◌:+◌, ◌:*◌, :-, x, y}
use Rattle.integers.specs.Whole.{ringℤ, ⊕_neg}
use Rattle.step_laws.specs.Signed.{abs_⊖}
use Rattle.step_laws.specs.Tests.{by_order}

-- a whole number no larger in magnitude is an f64
abbrev pub most : ℕ
most = 2 ^ 53

-- ---- a number with a sign
unfoldable pub signed : Bool → ℕ → ℤ
signed false k = pos k
signed true k = ⊖ (pos k)

pos_⊕ : (k l : ℕ) → pos (k + l) ≡ pos k ⊕ pos l
unfolding ◌⊕◌
pos_⊕ k l = refl

pos_⊗ : (k l : ℕ) → pos (k * l) ≡ pos k ⊗ pos l
unfolding ◌⊗◌
pos_⊗ k l = refl

signed_abs : (s : Bool) (k : ℕ) → nat_abs (signed s k) ≡ k
unfolding signed
signed_abs false k = refl
signed_abs true k = abs_⊖ (pos k)

signed-⊖ : (s : Bool) (k : ℕ) → signed (not s) k ≡ ⊖ (signed s k)
unfolding signed
signed-⊖ false k = refl
signed-⊖ true k = ringℤ (pos k ∷ []) x (:- (:- x)) refl

signed_⊗ : (s t : Bool) (k l : ℕ) → signed (unlike s t) (k * l) ≡ signed s k ⊗ signed t l
unfolding signed
signed_⊗ false false k l = pos_⊗ k l
signed_⊗ false true k l = ap ⊖ (pos_⊗ k l) ∙ ringℤ (pos k ∷ pos l ∷ []) (:- (x :* y)) (x :* :- y) refl
signed_⊗ true false k l = ap ⊖ (pos_⊗ k l) ∙ ringℤ (pos k ∷ pos l ∷ []) (:- (x :* y)) (:- x :* y) refl
signed_⊗ true true k l = pos_⊗ k l ∙ ringℤ (pos k ∷ pos l ∷ []) (x :* y) (:- x :* :- y) refl

signed_more : (s : Bool) (k l : ℕ) → signed s (k + l) ≡ signed s k ⊕ signed s l
unfolding signed
signed_more false k l = pos_⊕ k l
signed_more true k l = ap ⊖ (pos_⊕ k l) ∙ ringℤ (pos k ∷ pos l ∷ []) (:- (x :+ y)) (:- x :+ :- y) refl

signed-none : (s : Bool) (k : ℕ) → signed s k ⊕ signed (not s) k ≡ 0ℤ
signed-none s k = ap (λ a. signed s k ⊕ a) (signed-⊖ s k) ∙ ⊕_neg (signed s k)

signed-zero : signed false 0 ≡ 0ℤ
unfolding signed
signed-zero = refl

signed_less : (s : Bool) (k l : ℕ) → l ≤ k → signed s (k - l) ≡ signed s k ⊕ signed (not s) l
signed_less s k l h =
    let whole : k ≡ k - l + l = omega arith in
    ringℤ (signed s (k - l) ∷ signed s l ∷ []) x (x :+ y :+ :- y) refl
    ∙ ap₂ ◌⊕◌ (sym (ap (signed s) whole ∙ signed_more s (k - l) l)) (sym (signed-⊖ s l))

-- ---- what a float holds
abbrev pub Holds : Float → ℤ → Type 0
Holds nan a = ⊥
Holds (inf s) a = ⊥
Holds (fin s m e) a = (k : ℕ) × (m * up e ≡ k * down e) × (signed s k ≡ a)

of_value : (v : Float) (s : Bool) (k : ℕ) → HasValue v s k 1 → Holds v (signed s k)
of_value nan s k h = h
of_value (inf t) s k h = h
of_value (fin t m e) s k h = (k, sym (mul-one (m * up e)) ∙ h.1, ap (λ b. signed b k) h.0)

-- a fraction that is a whole number, rounded
rounds : (s : Bool) (num den k : ℕ) (a : ℤ) → 0 < den → num ≡ k * den → signed s k ≡ a → nat_abs a ≤ most
    → Holds (round binary64 s num den) a
rounds s num den k a d e is l =
    subst (Holds (round binary64 s num den)) is
    (of_value (round binary64 s num den) s k
    (subst (λ v. HasValue v s k 1) (sym (round_same binary64 s num den k 1 d (omega arith) (mul-one num ∙ e)))
    (round_whole binary64 s k (omega (arith, l, ap nat_abs is, signed_abs s k)))))

-- ---- a whole number made a float
pub holds_of_int : (a : ℤ) → nat_abs a ≤ most → Holds (of_int binary64 a) a
unfolding of_int signed ⊖
holds_of_int (pos n) l = rounds false n 1 n (pos n) (omega arith) (sym (mul-one n)) refl l
holds_of_int (negsuc n) l = rounds true (suc n) 1 (suc n) (negsuc n) (omega arith) (sym (mul-one (suc n))) refl l

-- ---- negative and product
pub holds_neg : (v : Float) (a : ℤ) → Holds v a → Holds (neg v) (⊖ a)
unfolding neg
holds_neg nan a h = h
holds_neg (inf s) a h = h
holds_neg (fin s m e) a h = (h.0, h.1, signed-⊖ s h.0 ∙ ap ⊖ h.2)

pub holds_mul : (v w : Float) (a b : ℤ) → Holds v a → Holds w b → nat_abs (a ⊗ b) ≤ most
    → Holds (mul binary64 v w) (a ⊗ b)
unfolding mul
holds_mul nan w a b h g l = absurd h
holds_mul (inf s) w a b h g l = absurd h
holds_mul (fin s m e) nan a b h g l = absurd g
holds_mul (fin s m e) (inf t) a b h g l = absurd g
holds_mul (fin s m e) (fin t n d) a b h g l =
    rounds (unlike s t) (m * up e * (n * up d)) (down e * down d) (h.0 * g.0) (a ⊗ b)
    (mul-pos (down_pos e) (down_pos d))
    (ap₂ ◌*◌ h.1 g.1 ∙ mul-mul-mul_comm h.0 (down e) g.0 (down d))
    (signed_⊗ s t h.0 g.0 ∙ ap₂ ◌⊗◌ h.2 g.2)
    l

sub-mul : (k l c : ℕ) → (k - l) * c ≡ k * c - l * c
sub-mul k l c = mul_comm (k - l) c ∙ mul-sub c k l ∙ ap₂ ◌-◌ (mul_comm c k) (mul_comm c l)

-- ---- the sum, of k/1 and l/1 over one denominator c
module _ (s : Bool) (k l c : ℕ) (p : 0 < c) where
  alike : nat_abs (signed s k ⊕ signed s l) ≤ most
      → Holds (round binary64 s (k * c + l * c) c) (signed s k ⊕ signed s l)
  alike h = rounds s (k * c + l * c) c (k + l) (signed s k ⊕ signed s l) p (sym (add-mul k l c)) (signed_more s k l) h

  -- the larger one's sign and what is left of it; of two that are the same, +0
  abbrev difference : Bool → Bool → Float
  difference less more =
      cond less (round binary64 (not s) (l * c - k * c) c) (round binary64 (s && more) (k * c - l * c) c)

  module _ (h : nat_abs (signed s k ⊕ signed (not s) l) ≤ most) where
    abbrev Differ : Bool → Bool → Type 0
    Differ less more = Holds (difference less more) (signed s k ⊕ signed (not s) l)

    below : k < l → Differ true false
    below g =
        rounds (not s) (l * c - k * c) c (l - k) (signed s k ⊕ signed (not s) l) p (sym (sub-mul l k c))
        (signed-⊖ s (l - k) ∙ ap ⊖ (signed_less s l k (le_of_lt g))
        ∙ rw (signed-⊖ s k, signed-⊖ s l)
        (ringℤ (signed s k ∷ signed s l ∷ []) (:- (y :+ :- x)) (x :+ :- y) refl))
        h

    above : l < k → Differ false true
    above g =
        rounds (s && true) (k * c - l * c) c (k - l) (signed s k ⊕ signed (not s) l) p (sym (sub-mul k l c))
        (ap (λ b. signed b (k - l)) (and-true s) ∙ signed_less s k l (le_of_lt g))
        h

    equal : k ≡ l → Differ false false
    equal e =
        rounds (s && false) (k * c - l * c) c 0 (signed s k ⊕ signed (not s) l) p (omega (arith, ap (λ j. j * c) e))
        (ap (λ b. signed b 0) (and-false s) ∙ signed-zero ∙ sym (signed-none s k)
        ∙ ap (λ j. signed s k ⊕ signed (not s) j) e)
        h

    differ : Differ (ltb (k * c) (l * c)) (ltb (l * c) (k * c))
    differ =
        by_order k l
        (λ g. rw (lt-ltb (k * c) (l * c) (mul-lt-mul_of_pos_right g p)) (below g))
        (λ g. rw (le-ltb (k * c) (l * c) (mul-le-mul_right c g))
        (by_order l k
        (λ f. rw (lt-ltb (l * c) (k * c) (mul-lt-mul_of_pos_right f p)) (above f))
        (λ f. rw (le-ltb (l * c) (k * c) (mul-le-mul_right c f)) (equal (omega arith)))))

-- both over one denominator
over : (m k e d : ℕ) → m ≡ k * e → m * d ≡ k * (e * d)
over m k e d h = ap (λ j. j * d) h ∙ mul_assoc k e d

over-other : (n l e d : ℕ) → n ≡ l * d → n * e ≡ l * (e * d)
over-other n l e d h = over n l d e h ∙ ap (λ j. l * j) (mul_comm d e)

holds_sum : (s t : Bool) (k l c : ℕ) → 0 < c → nat_abs (signed s k ⊕ signed t l) ≤ most
    → Holds (sum binary64 s (k * c) t (l * c) c) (signed s k ⊕ signed t l)
unfolding sum
holds_sum false false k l c p h = alike false k l c p h
holds_sum true true k l c p h = alike true k l c p h
holds_sum false true k l c p h = differ false k l c p h
holds_sum true false k l c p h = differ true k l c p h

pub holds_add : (v w : Float) (a b : ℤ) → Holds v a → Holds w b → nat_abs (a ⊕ b) ≤ most
    → Holds (add binary64 v w) (a ⊕ b)
unfolding add
holds_add nan w a b h g l = absurd h
holds_add (inf s) w a b h g l = absurd h
holds_add (fin s m e) nan a b h g l = absurd g
holds_add (fin s m e) (inf t) a b h g l = absurd g
holds_add (fin s m e) (fin t n d) a b h g l =
    let c = down e * down d in
    rw (over (m * up e) h.0 (down e) (down d) h.1, over-other (n * up d) g.0 (down e) (down d) g.1)
    (subst (Holds (sum binary64 s (h.0 * c) t (g.0 * c) c)) (ap₂ ◌⊕◌ h.2 g.2)
    (holds_sum s t h.0 g.0 c (mul-pos (down_pos e) (down_pos d)) (rw (h.2, g.2) l)))

pub holds_sub : (v w : Float) (a b : ℤ) → Holds v a → Holds w b → nat_abs (a ⊝ b) ≤ most
    → Holds (sub binary64 v w) (a ⊝ b)
unfolding sub
holds_sub v w a b h g l = holds_add v (neg w) a (⊖ b) h (holds_neg w b g) l

-- ---- the comparison
opposite : (s : Bool) (k : ℕ) → signed s k ≡ signed (not s) k → k ≡ 0
opposite s k e =
    omega
    (arith, signed_abs s (k + k), ap nat_abs (signed_more s k k ∙ ap (λ a. signed s k ⊕ a) e ∙ signed-none s k))

same_level : (s t : Bool) (k c : ℕ) → signed s k ≡ signed t k → T (beq s t || eqb (k * c) 0)
same_level false false k c e = tt
same_level true true k c e = tt
same_level false true k c e = rw (opposite false k e, zero-mul c) tt
same_level true false k c e = rw (opposite true k e, zero-mul c) tt

levels : (s t : Bool) (k l c : ℕ) → signed s k ≡ signed t l → T (level s (k * c) t (l * c))
levels s t k l c e =
    let same : l ≡ k = omega (arith, signed_abs s k, signed_abs t l, ap nat_abs e) in
    rw same
    (and_i (eqb (k * c) (k * c)) (beq s t || eqb (k * c) 0) (eqb_refl (k * c)) (same_level s t k c (rw same at e)))

pub holds_eq : (v w : Float) (a : ℤ) → Holds v a → Holds w a → T (eq v w)
unfolding eq
holds_eq nan w a h g = absurd h
holds_eq (inf s) w a h g = absurd h
holds_eq (fin s m e) nan a h g = absurd g
holds_eq (fin s m e) (inf t) a h g = absurd g
holds_eq (fin s m e) (fin t n d) a h g =
    rw (over (m * up e) h.0 (down e) (down d) h.1, over-other (n * up d) g.0 (down e) (down d) g.1)
    (levels s t h.0 g.0 (down e * down d) (h.2 ∙ sym g.2))

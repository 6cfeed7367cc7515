-- Ring equations by reflection: an expression is data, its normal form a sorted list of signed monomials in which
-- opposite ones have cancelled, and two expressions with one normal form have one value in every commutative ring
-- (`ring`). Used as `ring R (a ∷ b ∷ []) lhs rhs refl`, with `x`, `y`, .. for the listed values in order.
use Prim.Native.Nat.{ℕ, zero, compare, Ordering}
use Rattle.std.specs.Prelude.{◌≡◌, Bool, not, T, get_or}
use Rattle.std.proofs.Math.Path.{refl, sym, ap, ap₂}
use Rattle.std.proofs.Common.{◌∙◌, arith, eqb→eq}
use Rattle.std.proofs.Math.Bool.{true, false}
use mathlib.Core.List.{List, [], ◌∷◌}
use Rattle.std.proofs.Math.Dec.{compare_is_eq}
use Rattle.integers.specs.Ring as Laws
use Rattle.integers.specs.Ring.{Ring}

pub data Expr : Type 0 where
  v : ℕ → Expr
  :0 :1 : Expr
  ◌:+◌ ◌:*◌ : Expr → Expr → Expr
  :- : Expr → Expr

infixl 6 ◌:+◌
infixl 7 ◌:*◌
abbrev pub x : Expr
x = v 0

abbrev pub y : Expr
y = v 1

abbrev pub z : Expr
z = v 2

abbrev pub w : Expr
w = v 3

abbrev pub u : Expr
u = v 4

pub data Term : Type 0 where
  term : Bool → List ℕ → Term

-- ---- the normal form

-- how two monomials lie to one another
pub data Side : Type 0 where
  before same after : Side

abbrev pub side_of : Ordering → Side → Side
side_of Ordering.lt s = before
side_of Ordering.eq s = s
side_of Ordering.gt s = after

abbrev pub side : List ℕ → List ℕ → Side
side [] [] = same
side [] (b ∷ bs) = before
side (a ∷ rest) [] = after
side (a ∷ rest) (b ∷ bs) = side_of (compare a b) (side rest bs)

abbrev pub pick_var : Ordering → List ℕ → List ℕ → List ℕ
pick_var Ordering.lt front on = front
pick_var Ordering.eq front on = front
pick_var Ordering.gt front on = on

abbrev pub insert_var : ℕ → List ℕ → List ℕ
insert_var i [] = i ∷ []
insert_var i (j ∷ js) = pick_var (compare i j) (i ∷ j ∷ js) (j ∷ insert_var i js)

abbrev pub join_vars : List ℕ → List ℕ → List ℕ
join_vars [] n = n
join_vars (i ∷ m) n = insert_var i (join_vars m n)

-- two terms of one monomial: opposite signs cancel
abbrev pub meet : Bool → Bool → List Term → List Term → List Term
meet true true both rest = both
meet true false both rest = rest
meet false true both rest = rest
meet false false both rest = both

abbrev pub pick_term : Side → List Term → List Term → List Term → List Term
pick_term before front met on = front
pick_term same front met on = met
pick_term after front met on = on

abbrev pub insert_term : Bool → List ℕ → List Term → List Term
insert_term s m [] = term s m ∷ []
insert_term s m (term t n ∷ rest) =
    pick_term (side m n) (term s m ∷ term t n ∷ rest) (meet s t (term s m ∷ term t n ∷ rest) rest)
    (term t n ∷ insert_term s m rest)

abbrev pub add_terms : List Term → List Term → List Term
add_terms [] q = q
add_terms (term s m ∷ p) q = insert_term s m (add_terms p q)

abbrev pub neg_terms : List Term → List Term
neg_terms [] = []
neg_terms (term s m ∷ p) = term (not s) m ∷ neg_terms p

abbrev pub times_sign : Bool → Bool → Bool
times_sign true t = t
times_sign false t = not t

abbrev pub mul_term : Bool → List ℕ → List Term → List Term
mul_term s m [] = []
mul_term s m (term t n ∷ rest) = insert_term (times_sign s t) (join_vars m n) (mul_term s m rest)

abbrev pub mul_terms : List Term → List Term → List Term
mul_terms [] q = []
mul_terms (term s m ∷ p) q = add_terms (mul_term s m q) (mul_terms p q)

abbrev pub normal : Expr → List Term
normal (v i) = term true (i ∷ []) ∷ []
normal :0 = []
normal :1 = term true [] ∷ []
normal (a :+ b) = add_terms (normal a) (normal b)
normal (a :* b) = mul_terms (normal a) (normal b)
normal (:- a) = neg_terms (normal a)

-- ---- values in a ring, and that the normal form keeps them

-- nothing is both 0 and 1
never : ◌≡◌ {A = ℕ} 0 1 → ⊥
never e = omega arith

same_head : (o : Ordering) (s : Side) → side_of o s ≡ same → T (compare_is_eq o) × (s ≡ same)
same_head Ordering.lt s e = absurd (never (cc))
same_head Ordering.eq s e = (tt, e)
same_head Ordering.gt s e = absurd (never (cc))

side_same : (m n : List ℕ) → side m n ≡ same → m ≡ n
side_same [] [] e = refl
side_same [] (b ∷ bs) e = cc
side_same (a ∷ rest) [] e = cc
side_same (a ∷ rest) (b ∷ bs) e =
    let h = same_head (compare a b) (side rest bs) e in
    ap₂ ◌∷◌ (eqb→eq a b h.0) (side_same rest bs h.1)

module _ (R : Ring) (values : List R.Carrier) where
  open R use {
    Carrier,
    zero,
    one,
    add,
    mul,
    neg,
    add_assoc,
    add_comm,
    add-zero,
    add-neg,
    mul_assoc,
    mul_comm,
    mul-one,
    mul-add,
  }

  abbrev pub eval : Expr → Carrier
  eval (v i) = get_or values i zero
  eval :0 = zero
  eval :1 = one
  eval (a :+ b) = add (eval a) (eval b)
  eval (a :* b) = mul (eval a) (eval b)
  eval (:- a) = neg (eval a)

  mono : List ℕ → Carrier
  mono [] = one
  mono (i ∷ m) = mul (get_or values i zero) (mono m)

  signed : Bool → Carrier → Carrier
  signed true a = a
  signed false a = neg a

  value : List Term → Carrier
  value [] = zero
  value (term s m ∷ p) = add (signed s (mono m)) (value p)

  pick_var-value : (o : Ordering) (i j : ℕ) (js on : List ℕ) → mono on ≡ mul (get_or values i zero) (mono (j ∷ js))
      → mono (pick_var o (i ∷ j ∷ js) on) ≡ mul (get_or values i zero) (mono (j ∷ js))
  unfolding mono
  pick_var-value Ordering.lt i j js on e = refl
  pick_var-value Ordering.eq i j js on e = refl
  pick_var-value Ordering.gt i j js on e = e

  insert_var-value : (i : ℕ) (m : List ℕ) → mono (insert_var i m) ≡ mul (get_or values i zero) (mono m)
  unfolding mono
  insert_var-value i [] = refl
  insert_var-value i (j ∷ js) =
      pick_var-value (compare i j) i j js (j ∷ insert_var i js)
      (ap (mul (get_or values j zero)) (insert_var-value i js)
      ∙ Laws.mul_left_comm R (get_or values j zero) (get_or values i zero) (mono js))

  join_vars-value : (m n : List ℕ) → mono (join_vars m n) ≡ mul (mono m) (mono n)
  unfolding mono
  join_vars-value [] n = sym (mul_comm one (mono n) ∙ mul-one (mono n))
  join_vars-value (i ∷ m) n =
      insert_var-value i (join_vars m n) ∙ ap (mul (get_or values i zero)) (join_vars-value m n)
      ∙ sym (mul_assoc (get_or values i zero) (mono m) (mono n))

  -- a term put in front, and one that cancels the front
  cancels : (a b : Carrier) → b ≡ add a (add (neg a) b)
  cancels a b = sym (sym (add_assoc a (neg a) b) ∙ ap (λ c. add c b) (add-neg a) ∙ Laws.zero-add R b)

  meet-value : (s t : Bool) (m n : List ℕ) (rest : List Term) → m ≡ n
      → value (meet s t (term s m ∷ term t n ∷ rest) rest) ≡ add (signed s (mono m)) (value (term t n ∷ rest))
  unfolding value signed
  meet-value true true m n rest e = refl
  meet-value true false m n rest e = rw (← e) (cancels (mono m) (value rest))
  meet-value false true m n rest e =
      rw (← e) (cancels (neg (mono m)) (value rest)
      ∙ ap (λ c. add (neg (mono m)) (add c (value rest))) (Laws.neg-neg R (mono m)))
  meet-value false false m n rest e = refl

  pick_term-value : (d : Side) (s t : Bool) (m n : List ℕ) (rest on : List Term) → (d ≡ same → m ≡ n)
      → value on ≡ add (signed s (mono m)) (value (term t n ∷ rest))
      → value (pick_term d (term s m ∷ term t n ∷ rest) (meet s t (term s m ∷ term t n ∷ rest) rest) on)
      ≡ add (signed s (mono m)) (value (term t n ∷ rest))
  unfolding value
  pick_term-value before s t m n rest on e k = refl
  pick_term-value same s t m n rest on e k = meet-value s t m n rest (e refl)
  pick_term-value after s t m n rest on e k = k

  add_left_comm : (a b c : Carrier) → add a (add b c) ≡ add b (add a c)
  add_left_comm a b c = sym (add_assoc a b c) ∙ ap (λ d. add d c) (add_comm a b) ∙ add_assoc b a c

  insert_term-value : (s : Bool) (m : List ℕ) (p : List Term) → value (insert_term s m p)
      ≡ add (signed s (mono m)) (value p)
  unfolding value
  insert_term-value s m [] = refl
  insert_term-value s m (term t n ∷ rest) =
      pick_term-value (side m n) s t m n rest (term t n ∷ insert_term s m rest) (side_same m n)
      (ap (add (signed t (mono n))) (insert_term-value s m rest)
      ∙ add_left_comm (signed t (mono n)) (signed s (mono m)) (value rest))

  add_terms-value : (p q : List Term) → value (add_terms p q) ≡ add (value p) (value q)
  unfolding value
  add_terms-value [] q = sym (Laws.zero-add R (value q))
  add_terms-value (term s m ∷ p) q =
      insert_term-value s m (add_terms p q) ∙ ap (add (signed s (mono m))) (add_terms-value p q)
      ∙ sym (add_assoc (signed s (mono m)) (value p) (value q))

  not-value : (s : Bool) (a : Carrier) → signed (not s) a ≡ neg (signed s a)
  unfolding signed
  not-value true a = refl
  not-value false a = sym (Laws.neg-neg R a)

  neg_terms-value : (p : List Term) → value (neg_terms p) ≡ neg (value p)
  unfolding value
  neg_terms-value [] = sym (Laws.neg-zero R)
  neg_terms-value (term s m ∷ p) =
      ap₂ add (not-value s (mono m)) (neg_terms-value p) ∙ sym (Laws.neg-add R (signed s (mono m)) (value p))

  times_sign-value : (s t : Bool) (a b : Carrier) → signed (times_sign s t) (mul a b) ≡ mul (signed s a) (signed t b)
  unfolding signed
  times_sign-value true true a b = refl
  times_sign-value true false a b = sym (Laws.mul-neg R a b)
  times_sign-value false true a b = sym (Laws.neg-mul R a b)
  times_sign-value false false a b =
      sym (Laws.neg-neg R (mul a b)) ∙ ap neg (sym (Laws.neg-mul R a b)) ∙ sym (Laws.mul-neg R (neg a) b)

  mul_term-value : (s : Bool) (m : List ℕ) (p : List Term) → value (mul_term s m p) ≡ mul (signed s (mono m)) (value p)
  unfolding value
  mul_term-value s m [] = sym (Laws.mul-zero R (signed s (mono m)))
  mul_term-value s m (term t n ∷ rest) =
      insert_term-value (times_sign s t) (join_vars m n) (mul_term s m rest)
      ∙ ap₂ add (ap (signed (times_sign s t)) (join_vars-value m n) ∙ times_sign-value s t (mono m) (mono n))
      (mul_term-value s m rest)
      ∙ sym (mul-add (signed s (mono m)) (signed t (mono n)) (value rest))

  mul_terms-value : (p q : List Term) → value (mul_terms p q) ≡ mul (value p) (value q)
  unfolding value
  mul_terms-value [] q = sym (Laws.zero-mul R (value q))
  mul_terms-value (term s m ∷ p) q =
      add_terms-value (mul_term s m q) (mul_terms p q)
      ∙ ap₂ add (mul_term-value s m q) (mul_terms-value p q)
      ∙ sym (Laws.add-mul R (signed s (mono m)) (value p) (value q))

  normal-value : (e : Expr) → value (normal e) ≡ eval e
  unfolding value signed mono
  normal-value (v i) = add-zero (mul (get_or values i zero) one) ∙ mul-one (get_or values i zero)
  normal-value :0 = refl
  normal-value :1 = add-zero one
  normal-value (a :+ b) = add_terms-value (normal a) (normal b) ∙ ap₂ add (normal-value a) (normal-value b)
  normal-value (a :* b) = mul_terms-value (normal a) (normal b) ∙ ap₂ mul (normal-value a) (normal-value b)
  normal-value (:- a) = neg_terms-value (normal a) ∙ ap neg (normal-value a)

  pub ring : (a b : Expr) → normal a ≡ normal b → eval a ≡ eval b
  ring a b e = sym (normal-value a) ∙ ap value e ∙ normal-value b

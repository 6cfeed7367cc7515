-- The three ways of growing, by kind and parity, and F(1), F(2), I(1), I(2) by their first and last coefficients.
use Prim.Native.Nat.{ℕ, ◌+◌, ◌*◌, ◌-◌, ◌<◌, ◌≤◌}
use mathlib.Core.Path.{◌≡◌, refl, sym, ◌∙◌, ap, ap₂}
use mathlib.Core.Bool.{Bool, true, false, cond}
use mathlib.Core.Logic.{◌≢◌}
use mathlib.Core.List.{List}
use native.Mathlib.Omega.{arith}
use native.Mathlib.Nat as NatL
use native.Mathlib.Decide.{ℕ_discrete}
use borrow.Author.Tests.{ne_eqb}
use lib.ListN.{length, get_or, set, length-set}
use lib.Seq.{get_or-set_same, get_or-set_other}
use lib.Dec.{eqb}
use lib.IntN.{ℤ, pos}
use Rattle.definitions.specs.Integers.{◌⊕◌, ◌⊗◌, ⊖, 0ℤ, 1ℤ}
use Rattle.definitions.specs.Series.{constant, ◌+ˢ◌, _ˢ, ◌·◌, ◌÷◌, z^, firsts, alternate}
use Rattle.definitions.specs.Numbers.{some_to, count_to, divides, share_factor, phi}
use Rattle.definitions.specs.Polynomials.{product_to, at_divisors, z^_1, family_to, F, I, polynomial, degree}
use Rattle.definitions.specs.Requests.{known_kind}
use Rattle.numbers.specs.Tests.{kind_two}
use Rattle.numbers.specs.Apart.{OddSquarefree}
use Rattle.numbers.specs.Primes.{prime_two}
use Rattle.numbers.specs.Phi.{phi_new, phi-le}
use Rattle.step_laws.specs.Machine.{seen}
use Rattle.step_laws.specs.Firsts.{is_firsts}
use Rattle.cyclotomic.specs.Apart.{F_twice}
use Rattle.cyclotomic.specs.Degrees.{monic}

pub phi_double : (r : ℕ) → OddSquarefree r → phi (2 * r) ≡ phi r
phi_double r O = ap phi (NatL.mul_comm 2 r) ∙ omega (arith, phi_new r 2 prime_two O.odd)

-- F(2r)
module _ (kind r : ℕ) (one : kind ≡ 1) (O : OddSquarefree r) (h : r ≢ 1) where
  pub even_degree : degree kind (2 * r) ≡ degree kind r
  unfolding degree
  even_degree = rw one (phi_double r O)

  pub even_F : alternate (polynomial kind r) ≡ polynomial kind (2 * r)
  unfolding polynomial
  even_F = rw one (sym (F_twice r O h))

-- I(2r)
module _ (kind r : ℕ) (other : kind ≢ 1) where
  pub even_I : I (2 * r) ≡ polynomial kind (2 * r)
  unfolding polynomial
  even_I = rw (ne_eqb kind 1 other)

  pub degree-I : degree kind (2 * r) ≡ 2 * r - phi (2 * r)
  unfolding degree
  degree-I = rw (ne_eqb kind 1 other)

-- ---- the first coefficients
pub first_F1 : polynomial 1 1 0 ≡ ⊖ 1ℤ
unfolding ◌⊕◌ ◌⊗◌ ⊖ constant ◌+ˢ◌ _ˢ ◌·◌ ◌÷◌ z^ some_to count_to divides product_to at_divisors z^_1 family_to F I polynomial
first_F1 = refl

pub first_F2 : polynomial 1 2 0 ≡ 1ℤ
unfolding ◌⊕◌ ◌⊗◌ ⊖ constant ◌+ˢ◌ _ˢ ◌·◌ ◌÷◌ z^ some_to count_to divides product_to at_divisors z^_1 family_to F I polynomial
first_F2 = refl

pub first_I1 : polynomial 2 1 0 ≡ 1ℤ
unfolding ◌⊕◌ ◌⊗◌ ⊖ constant ◌+ˢ◌ _ˢ ◌·◌ ◌÷◌ z^ some_to count_to divides product_to at_divisors z^_1 family_to F I polynomial
first_I1 = refl

pub first_I2 : polynomial 2 2 0 ≡ ⊖ 1ℤ
unfolding ◌⊕◌ ◌⊗◌ ⊖ constant ◌+ˢ◌ _ˢ ◌·◌ ◌÷◌ z^ some_to count_to divides product_to at_divisors z^_1 family_to F I polynomial
first_I2 = refl

minus_one-seen : seen (⊖ 1ℤ) ≡ ⊖ 1ℤ
unfolding ⊖
minus_one-seen = refl

-- their degrees are at most 1
tiny_degree : (kind : ℕ) (even : Bool) → degree kind (cond even 2 1) ≤ 1
unfolding degree some_to count_to divides share_factor phi
tiny_degree kind even = go even (eqb kind 1)
  where
    go : (e b : Bool) → cond b (phi (cond e 2 1)) (cond e 2 1 - phi (cond e 2 1)) ≤ 1
    go true true = omega arith
    go true false = omega arith
    go false true = omega arith
    go false false = omega arith

tiny_pos : (even : Bool) → 0 < cond even 2 1
tiny_pos true = omega arith
tiny_pos false = omega arith

-- the first coefficient and 1 as the last are all of them
pub tiny-whole :
    (kind : ℕ) (even : Bool) (l : List ℤ) (v : ℤ) → length l ≡ degree kind (cond even 2 1) + 1
    → v ≡ polynomial kind (cond even 2 1) 0
    → set (set l 0 v) (length l - 1) (pos 1) ≡ firsts (length l) (polynomial kind (cond even 2 1))
tiny-whole kind even l v n e =
    is_firsts (length l) (polynomial kind m) (set (set l 0 v) (length l - 1) (pos 1))
    (length-set (set l 0 v) (length l - 1) (pos 1) ∙ length-set l 0 v)
    (λ k b. go k b (ℕ_discrete k (length l - 1)))
  where
    m : ℕ
    m = cond even 2 1

    go : (k : ℕ) → k < length l → Dec (k ≡ length l - 1) → get_or (set (set l 0 v) (length l - 1) (pos 1)) k 0ℤ
        ≡ polynomial kind m k
    go k b (yes q) =
        let last : degree kind m ≡ k = omega arith in
        ap (λ j. get_or (set (set l 0 v) (length l - 1) (pos 1)) j 0ℤ) q
        ∙ get_or-set_same (set l 0 v) (length l - 1) (pos 1) 0ℤ (omega (arith, length-set l 0 v))
        ∙ sym (monic kind m (tiny_pos even)).top ∙ ap (polynomial kind m) last
    go k b (no q) =
        let zero' : k ≡ 0 = omega (arith, tiny_degree kind even) in
        get_or-set_other (set l 0 v) (length l - 1) k (pos 1) 0ℤ q
        ∙ ap (λ j. get_or (set l 0 v) j 0ℤ) zero' ∙ get_or-set_same l 0 v 0ℤ (omega arith) ∙ e
        ∙ ap (polynomial kind m) (sym zero')

-- the first coefficient fits a machine number
pub first-seen : (kind : ℕ) (even : Bool) → known_kind kind ≡ true → seen (polynomial kind (cond even 2 1) 0)
    ≡ polynomial kind (cond even 2 1) 0
first-seen kind even k = go (ℕ_discrete kind 1) even
  where
    go : Dec (kind ≡ 1) → (b : Bool) → seen (polynomial kind (cond b 2 1) 0) ≡ polynomial kind (cond b 2 1) 0
    go (yes e) true = rw (e, first_F2)
    go (yes e) false = rw (e, first_F1) minus_one-seen
    go (no e) true = rw (kind_two kind k e, first_I2) minus_one-seen
    go (no e) false = rw (kind_two kind k e, first_I1)

-- ---- the two ways of an even index
module _ (kind r : ℕ) (even : Bool) (l : List ℤ) (len : length l ≡ degree kind (cond even (2 * r) r) + 1) where
  even_length : even ≡ true → length l ≡ degree kind (2 * r) + 1
  even_length e = len ∙ ap (λ b. degree kind (cond b (2 * r) r) + 1) e

  module _ (e : even ≡ true) (O : OddSquarefree r) (h : r ≢ 1) where
    pub F-length : kind ≡ 1 → length l ≡ degree kind r + 1
    F-length one = even_length e ∙ ap (λ n. n + 1) (even_degree kind r one O h)

    pub F_grown : kind ≡ 1 → (x : List ℤ) → x ≡ firsts (degree kind r + 1) (alternate (polynomial kind r))
        → x ≡ firsts (length l) (polynomial kind (cond even (2 * r) r))
    F_grown one x q =
        q ∙ ap₂ firsts (sym (F-length one)) (even_F kind r one O h)
        ∙ ap (λ b. firsts (length l) (polynomial kind (cond b (2 * r) r))) (sym e)

    pub I-length : kind ≢ 1 → (free : ℕ) → free ≡ phi r → length l ≡ r + (r - free + 1)
    I-length other free f = even_length e ∙ omega (arith, degree-I kind r other, phi_double r O, phi-le r)

    pub I_grown : kind ≢ 1 → (x : List ℤ) → x ≡ firsts (length l) (I (2 * r))
        → x ≡ firsts (length l) (polynomial kind (cond even (2 * r) r))
    I_grown other x q = q ∙ ap (firsts (length l)) (even_I kind r other)
        ∙ ap (λ b. firsts (length l) (polynomial kind (cond b (2 * r) r))) (sym e)

pub top-I : (r free : ℕ) → free ≡ phi r → r - free + 1 ≡ degree 2 r + 1
unfolding degree
top-I r free f = omega arith

-- Texts put one after the other are their concatenation put at once.
use mathlib.Core.Path.{◌≡◌, refl, sym, ◌∙◌, ap}
use mathlib.Core.List.{List, [], ◌∷◌, ◌++◌, append_assoc, append-nil}
use Prim.Native.Nat.{ℕ, zero, suc, ◌+◌, ◌^◌, ◌<◌, ◌≤◌}
use native.Mathlib.Nat.{not-suc-le-zero, add-zero}
use native.Mathlib.Omega.{arith}
use lib.ListN.{length, take, drop, set, length-append}
use lib.Seq.{sets, sets-eq, take_at}
use lib.IntN.{ℤ, pos, negsuc, nat_abs}
use Rattle.text.specs.Text.{SPACE, MINUS, decimal, sign, signed, spaced}
use Rattle.text.specs.Puts.{Puts}
use Rattle.text.proofs.Decimal.{length_machine}

sets-append : (a b l : List ℕ) (i : ℕ) → sets l i (a ++ b) ≡ sets (sets l i a) (i + length a) b
sets-append [] b l i = ap (λ k. sets l k b) (none i)
  where
    none : (i : ℕ) → i ≡ i + 0
    none i = omega arith
sets-append (x ∷ a) b l i = sets-append a b (set l i x) (suc i)
    ∙ ap (λ k. sets (sets (set l i x) (suc i) a) k b) (more i (length a))
  where
    more : (i k : ℕ) → suc i + k ≡ i + suc k
    more i k = omega arith

pub nothing_put : (at : ℕ) (l : List ℕ) → Puts [] at l l at
nothing_put at l = record { leaves = refl; place = omega arith }

pub then : {a b l m o : List ℕ} {at p q : ℕ} → Puts a at l m p → Puts b p m o q → Puts (a ++ b) at l o q
then {a} {b} {l} {at = at} f g =
    record {
      leaves = g.leaves ∙ (rw (f.leaves, f.place) (sym (sets-append a b l at)));
      place = omega (arith, g.place, f.place, length-append a b);
    }

-- what is written over makes no difference
written_over : (l : List ℕ) (i x : ℕ) (text : List ℕ) → 1 ≤ length text → sets (set l i x) i text ≡ sets l i text
written_over l i x [] h = absurd (not-suc-le-zero h)
written_over l i x (y ∷ text) h = ap (λ k. sets k (suc i) text) (twice l i)
  where
    twice : (l : List ℕ) (i : ℕ) → set (set l i x) i y ≡ set l i y
    twice [] i = refl
    twice (a ∷ l) zero = refl
    twice (a ∷ l) (suc i) = ap (λ k. a ∷ k) (twice l i)

-- a text after a minus sign that stays, or over it
pub after-sign : (c : ℤ) {text l m o : List ℕ} {at p q : ℕ} → 1 ≤ length text → m ≡ set l at MINUS
    → p ≡ at + length (sign c) → Puts text p m o q → Puts (sign c ++ text) at l o q
unfolding sign
after-sign (pos n) {text} {l} {at = at} some e f g =
    record {
      leaves = g.leaves ∙ rw (f, add-zero at, e) (written_over l at MINUS text some);
      place = omega (arith, g.place, f);
    }
after-sign (negsuc n) some e f g = then {a = MINUS ∷ []} (record { leaves = e; place = f }) g

pub spaced-append : (xs ys : List ℤ) → spaced (xs ++ ys) ≡ spaced xs ++ spaced ys
unfolding spaced
spaced-append [] ys = refl
spaced-append (c ∷ xs) ys =
    ap (λ r. SPACE ∷ signed c ++ r) (spaced-append xs ys)
    ∙ ap (λ r. SPACE ∷ r) (sym (append_assoc (signed c) (spaced xs) (spaced ys)))

-- one number, after its space
pub spaced-one : (c : ℤ) → spaced (c ∷ []) ≡ (SPACE ∷ []) ++ (sign c ++ decimal (nat_abs c))
unfolding spaced signed
spaced-one c = ap (λ r. SPACE ∷ r) (append-nil (sign c ++ decimal (nat_abs c)))

pub length-spaced : (c : ℤ) → nat_abs c < 2 ^ 64 → length (spaced (c ∷ [])) ≤ 21 + length (sign c)
length-spaced c h =
    omega (arith, ap length (spaced-one c), length-append (sign c) (decimal (nat_abs c)), length_machine (nat_abs c) h)

pub length-sign : (c : ℤ) → length (sign c) ≤ 1
unfolding sign
length-sign (pos n) = omega arith
length-sign (negsuc n) = omega arith

module _ {at p q : ℕ} {l m o : List ℕ} where
  pub put_one : (c : ℤ) → Puts (SPACE ∷ []) at l m p → Puts (sign c ++ decimal (nat_abs c)) p m o q
      → Puts (spaced (c ∷ [])) at l o q
  put_one c f g = rw (spaced-one c) (then f g)

  pub put_plain : (n : ℕ) → Puts (SPACE ∷ []) at l m p → Puts (decimal n) p m o q → Puts (spaced (pos n ∷ [])) at l o q
  unfolding sign
  put_plain n f g = put_one (pos n) f g

-- what was put at the start of a buffer are its first bytes, all of them
pub put_first : {text l m : List ℕ} {made : ℕ} → Puts text 0 l m made → made ≤ length l → take made m ≡ text
put_first {text} {l} {m} {made} p fits =
    let long : 0 + length text ≡ made = sym p.place in
    ap (take made) (p.leaves ∙ sets-eq text l 0 (omega arith))
    ∙ take_at text (drop (0 + length text) l) made (omega arith)

-- The search for the next divisor, step by step: sizes stay small; the start is r itself; each mask is weighed; and at
-- the end every mask was.
use Prim.Native.Nat.{ℕ, zero, suc, ◌+◌, ◌*◌, ◌-◌, ◌^◌, ◌≤◌, ◌<◌}
use mathlib.Core.Path.{◌≡◌, refl, sym, ap, ap₂, ◌∙◌}
use mathlib.Core.Bool.{Bool, true, false, cond, ◌&&◌}
use mathlib.Core.List.{List}
use mathlib.Core.Logic.{◌⊎◌, inl, inr, ⊎_elim}
use native.Mathlib.Nat.{sub-zero, mul-le-mul, le-mul_of_pos_right, le_trans, le_refl, le_of_eq, one-mul, add-zero}
use native.Mathlib.Nat.{add-suc, add-sub_of_le, eq-or-lt_of_le}
use native.Mathlib.Numerals.{add-one}
use native.Mathlib.Decide.{dec_le}
use native.Mathlib.Omega.{arith}
use lib.Dec.{ltb, eqb}
use lib.ListN.{get_or, take}
use Rattle.std.proofs.lemmas.List.{get_or-take}
use lib.Pow.{pow_pos}
use Rattle.numbers.specs.Tests.{Tests, test_and, test_lt, refutes}
use Rattle.numbers.specs.Primes.{prime_pos}
use Rattle.definitions.specs.Numbers.{row_to}
use Rattle.divisors.specs.Masks.{mask_to, bit}
use Rattle.divisors.proofs.MaskLaws.{mask_suc, mask_off, mask_complement}
use Rattle.divisors.specs.Least.{Row, LeastTo, or_named}
use Rattle.divisors.specs.declared.NamedDivisor.{NamedDivisor}

either_of : (b : Bool) {A : Type 0} (C : A → Type 0) {y x : A} → (b ≡ true → C y) → (b ≡ false → C x) → C (cond b y x)
either_of true C f g = f refl
either_of false C f g = g refl

le-or-lt : (a b : ℕ) → (a ≤ b) ⊎ (b < a)
le-or-lt a b = go (dec_le a b)
  where
    go : Dec (a ≤ b) → (a ≤ b) ⊎ (b < a)
    go (yes h) = inl h
    go (no h) = inr (omega arith)

at_most : (b : Bool) (p : ℕ) → 0 < p → cond b p 1 ≤ p
at_most b p l = either_of b (λ x. x ≤ p) (λ e. le_refl p) (λ e. l)

module _ (l : List ℕ) (k : ℕ) (w : Row l k) where
  entry_pos : (i : ℕ) → i < k → 0 < get_or l i 0
  entry_pos i u = prime_pos (w.new i u).0

  mask_below : (m i : ℕ) → i ≤ k → mask_to l m i ≤ row_to l i
  unfolding mask_to row_to
  mask_below m zero u = le_refl 1
  mask_below m (suc i) u =
      mul-le-mul (mask_below m i (omega arith)) (at_most (eqb (bit m i) 1) (get_or l i 0) (entry_pos i u))

  row_up : (i j : ℕ) → i + j ≤ k → row_to l i ≤ row_to l (i + j)
  unfolding row_to
  row_up i zero u = le_of_eq (ap (row_to l) (sym (add-zero i)))
  row_up i (suc j) u =
      rw (add-suc i j)
      (le_trans (row_up i j (omega arith)) (le-mul_of_pos_right (row_to l (i + j)) (entry_pos (i + j) (omega arith))))

  pub mask_small : (m i : ℕ) → i ≤ k → mask_to l m i ≤ 65535
  mask_small m i u =
      le_trans (mask_below m i u) (le_trans (rw (add-sub_of_le u) at (row_up i (k - i) (omega arith))) w.bound)

  -- one factor more: the loop's step, and that it stays small
  pub mask-more :
      (m i x y : ℕ)
      → i < k
      → x ≡ mask_to l m i
      → y ≡ cond (eqb (bit m i) 1) (get_or l i 0) 1
      → (x * y ≡ mask_to l m (i + 1)) × (x * y ≤ 65535)
  mask-more m i x y u e h =
      let step : x * y ≡ mask_to l m (i + 1) = ap₂ ◌*◌ e h
      ∙ (sym (mask_suc l m i) ∙ ap (mask_to l m) (sym (add-one i))) in
      (step, rw step (mask_small m (i + 1) (omega arith)))

  mask_none : (i : ℕ) → mask_to l 0 i ≡ 1
  unfolding mask_to
  mask_none zero = refl
  mask_none (suc i) = mask_off l 0 i (pow_pos i) ∙ mask_none i

  mask_full : mask_to l (2 ^ k - 1) k ≡ row_to l k
  mask_full =
      sym (one-mul (mask_to l (2 ^ k - 1) k))
      ∙ (ap (λ x. x * mask_to l (2 ^ k - 1) k) (sym (mask_none k))
      ∙ rw (sub-zero (2 ^ k - 1)) at (mask_complement l k 0 (pow_pos k)))

  pub least_start :
      (after a s : ℕ)
      → a ≡ 2 ^ k - 1
      → s ≡ row_to l k
      → after < s
      → LeastTo l k after 0 (record { mask = a; size = s })
  least_start after a s e h u =
      record {
        above = u;
        inside = omega (arith, pow_pos k);
        names = ap (λ c. mask_to l c k) e ∙ (mask_full ∙ sym h);
        most = le_of_eq h;
        least = λ b v. absurd (omega arith);
      }

  -- every mask but the last was weighed, and the last names r
  pub least_end : (after : ℕ) (x : NamedDivisor) → LeastTo l k after (2 ^ k - 1) x → LeastTo l k after (2 ^ k) x
  least_end after x f =
      record { above = f.above; inside = f.inside; names = f.names; most = f.most; least = all }
    where
      all : (b : ℕ) → b < 2 ^ k → after < mask_to l b k → x.size ≤ mask_to l b k
      all b v a =
          let w : b ≤ 2 ^ k - 1 = omega arith in
          ⊎_elim (λ h. le_trans f.most (le_of_eq (sym (ap (λ c. mask_to l c k) h ∙ mask_full)))) (λ h. f.least b h a)
          (eq-or-lt_of_le w)

  pub least_step :
      (after m s : ℕ) (x : NamedDivisor)
      → m < 2 ^ k
      → s ≡ mask_to l m k
      → LeastTo l k after m x
      → LeastTo l k after (m + 1) (or_named x m s after)
  least_step after m s x u e f =
      either_of (ltb after s && ltb s x.size) (LeastTo l k after (m + 1)) better (λ h. same (refutes tested h))
    where
      tested : Tests (ltb after s && ltb s x.size) ((after < s) × (s < x.size))
      tested = test_and (test_lt after s) (test_lt s x.size)

      -- what is at most all before and at most the new one is at most all
      all :
          (z : ℕ)
          → ((b : ℕ) → b < m → after < mask_to l b k → z ≤ mask_to l b k)
          → (after < s → z ≤ s)
          → (b : ℕ)
          → b < m + 1
          → after < mask_to l b k
          → z ≤ mask_to l b k
      all z before here b v a =
          let w : b ≤ m = omega arith in
          let at-m : b ≡ m → mask_to l b k ≡ s = λ h. ap (λ c. mask_to l c k) h ∙ sym e in
          ⊎_elim (λ h. omega (arith, at-m h, here (omega (arith, at-m h)))) (λ h. before b h a) (eq-or-lt_of_le w)

      better : (ltb after s && ltb s x.size) ≡ true → LeastTo l k after (m + 1) (record { mask = m; size = s })
      better h =
          let t : (after < s) × (s < x.size) = tested.shows h in
          record {
            above = t.0;
            inside = u;
            names = sym e;
            most = omega (arith, t.1, f.most);
            least = all s (λ b v a. omega (arith, t.1, f.least b v a)) (λ a. le_refl s);
          }

      same : ¬ ((after < s) × (s < x.size)) → LeastTo l k after (m + 1) x
      same n =
          record {
            above = f.above;
            inside = f.inside;
            names = f.names;
            most = f.most;
            least = all x.size f.least (λ a. ⊎_elim (λ h. h) (λ h. absurd (n (a, h))) (le-or-lt x.size s));
          }

-- a row of k primes is what the first k entries tell
module _ (l : List ℕ) (k : ℕ) where
  row_front : (i : ℕ) → i ≤ k → row_to (take k l) i ≡ row_to l i
  unfolding row_to
  row_front zero u = refl
  row_front (suc i) u = ap₂ ◌*◌ (row_front i (omega arith)) (get_or-take k l i 0 u)

  mask_front : (m i : ℕ) → i ≤ k → mask_to (take k l) m i ≡ mask_to l m i
  unfolding mask_to
  mask_front m zero u = refl
  mask_front m (suc i) u =
      ap₂ (λ x p. x * cond (eqb (bit m i) 1) p 1) (mask_front m i (omega arith)) (get_or-take k l i 0 u)

  pub front-row : Row l k → Row (take k l) k × (row_to (take k l) k ≡ row_to l k)
  front-row w = (
    record {
      few = w.few;
      new = λ i u. rw (get_or-take k l i 0 u, row_front i (omega arith)) (w.new i u);
      bound = rw (row_front k (le_refl k)) w.bound;
    },
    row_front k (le_refl k),
  )

  pub front-least : {after : ℕ} {x : NamedDivisor} → LeastTo (take k l) k after (2 ^ k) x → LeastTo l k after (2 ^ k) x
  front-least {after} {x} f =
      record {
        above = f.above;
        inside = f.inside;
        names = sym (mask_front x.mask k (le_refl k)) ∙ f.names;
        most = rw (← row_front k (le_refl k)) f.most;
        least = λ b v a. rw (mask_front b k (le_refl k)) at (f.least b v (rw (mask_front b k (le_refl k)) a));
      }

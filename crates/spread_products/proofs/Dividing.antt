-- A division by z^m - 1: what the quotient is at a place, from the one m before; that of series equal modulo 2^64 it is
-- equal so; and one that has got to some place.
use Prim.Native.Nat.{ℕ, ◌+◌, ◌-◌, ◌<◌, ◌≤◌}
use mathlib.Core.Path.{◌≡◌, refl, sym, ◌∙◌, ap, ap₂}
use mathlib.Core.List.{List, [], ◌∷◌}
use native.Mathlib.Nat.{not-suc-le-zero}
use native.Mathlib.Omega.{arith}
use lib.ListN.{length, set}
use lib.IntN.{ℤ}
use mir.Syntax.{w64}
use mir.Val.{SFits}
use Rattle.definitions.specs.Integers.{◌⊝◌, ⊖, 0ℤ}
use Rattle.definitions.specs.Series.{Series, ◌·◌, ◌÷◌, z^}
use Rattle.definitions.specs.Polynomials.{z^_1}
use Rattle.definitions.specs.Steps.{entries}
use Rattle.integers.specs.Solver.{◌:+◌, :-, x, y}
use Rattle.integers.specs.Whole.{zero_⊕, ringℤ}
use Rattle.series.specs.Laws.{div-mul}
use Rattle.series.specs.Maps.{shift_below, shift_from}
use Rattle.step_laws.specs.Tests.{by_order}
use Rattle.step_laws.specs.Firsts.{length-firsts, firsts_here, firsts_past}
use Rattle.step_laws.specs.Accumulated.{by_chain}
use Rattle.cyclotomic.specs.Family.{unit_z^_1}
use Rattle.cyclotomic.specs.Second.{times-z^_1}
use Rattle.entry_steps.specs.Passes.{Split}
use Rattle.entry_steps.proofs.Split.{moved_up, all_firsts, all_below}
use Rattle.wrapped_sums.specs.Wrapped.{wrap, Like}
use Rattle.wrapped_sums.specs.Residues.{wrap_fits, wrap_fit, wrap-wrap, like_⊖, like_⊝}
use Rattle.spread_products.specs.Rows.{Made}
use Rattle.spread_products.specs.Quotients.{quotient, quotient_list}

module _ (m : ℕ) (one : 1 ≤ m) (f : Series) where
  abbrev Q : Series
  Q = f ÷ z^_1 m

  difference : (i : ℕ) → (z^ m · Q) i ⊝ Q i ≡ f i
  difference i = sym (times-z^_1 m Q i) ∙ ap (λ s. s i) (div-mul f (z^_1 m) (unit_z^_1 m one))

  pub quotient-low : (i : ℕ) → i < m → Q i ≡ ⊖ (f i)
  quotient-low i b =
      ringℤ (Q i ∷ []) x (:- (:- x)) refl
      ∙ ap ⊖ (sym (zero_⊕ (⊖ (Q i))) ∙ ap (λ v. v ⊝ Q i) (sym (shift_below m Q i b)) ∙ difference i)

  pub quotient-next : (i : ℕ) → m ≤ i → Q i ≡ Q (i - m) ⊝ f i
  quotient-next i b =
      ringℤ (Q (i - m) ∷ Q i ∷ []) y (x :+ :- (x :+ :- y)) refl
      ∙ ap (λ v. Q (i - m) ⊝ v) (ap (λ v. v ⊝ Q i) (sym (shift_from m Q i b)) ∙ difference i)

  low_value : (i : ℕ) → i < m → wrap (0ℤ ⊝ f i) ≡ quotient m f i
  unfolding quotient
  low_value i b = ap wrap (zero_⊕ (⊖ (f i)) ∙ sym (quotient-low i b))

  next-value : (i : ℕ) → m ≤ i → wrap (quotient m f (i - m) ⊝ f i) ≡ quotient m f i
  unfolding quotient
  next-value i b =
      like_⊝ (wrap (Q (i - m))) (Q (i - m)) (f i) (f i) (wrap-wrap (Q (i - m))) refl
      ∙ ap wrap (sym (quotient-next i b))

-- the quotient's entry before i, where m is 1, and 0 before the first
pub carried_at : Series → ℕ → ℤ
carried_at f i = wrap ((z^ 1 · (f ÷ z^_1 1)) i)

module _ (f : Series) where
  pub carried_first : 0ℤ ≡ carried_at f 0
  unfolding carried_at
  carried_first = sym (ap wrap (shift_below 1 (f ÷ z^_1 1) 0 (omega arith)) ∙ wrap_fit (record { sfits = omega arith }))

  pub carried_next : (i : ℕ) → quotient 1 f i ≡ carried_at f (i + 1)
  unfolding quotient carried_at
  carried_next i =
      let back : i + 1 - 1 ≡ i = omega arith in
      sym (ap wrap (shift_from 1 (f ÷ z^_1 1) (i + 1) (omega arith) ∙ ap (f ÷ z^_1 1) back))

  carried_value : (i : ℕ) → wrap (carried_at f i ⊝ f i) ≡ quotient 1 f i
  unfolding quotient carried_at
  carried_value i =
      let Q : Series = f ÷ z^_1 1 in
      like_⊝ (wrap ((z^ 1 · Q) i)) ((z^ 1 · Q) i) (f i) (f i) (wrap-wrap ((z^ 1 · Q) i)) refl
      ∙ ap (λ v. wrap ((z^ 1 · Q) i ⊝ v)) (sym (difference 1 (omega arith) f i))
      ∙ ap wrap (ringℤ ((z^ 1 · Q) i ∷ Q i ∷ []) (x :+ :- (x :+ :- y)) y refl)

-- equal modulo 2^64
quotient_like : (n m : ℕ) → 1 ≤ m → (f g : Series) → Like n f g → Like n (f ÷ z^_1 m) (g ÷ z^_1 m)
quotient_like n m one f g like =
    by_chain (λ i. i < n → wrap ((f ÷ z^_1 m) i) ≡ wrap ((g ÷ z^_1 m) i)) m one
    (λ i b c. ap wrap (quotient-low m one f i b) ∙ like_⊖ (f i) (g i) (like i c)
    ∙ ap wrap (sym (quotient-low m one g i b)))
    (λ i b rest c.
    ap wrap (quotient-next m one f i b)
    ∙ like_⊝ ((f ÷ z^_1 m) (i - m)) ((g ÷ z^_1 m) (i - m)) (f i) (g i) (rest (omega arith)) (like i c)
    ∙ ap wrap (sym (quotient-next m one g i b)))

-- what a division leaves holds the quotient
pub made-quotient : {s : Series} {l q : List ℤ} (m : ℕ) → 1 ≤ m → Made s l → q ≡ quotient_list m l
    → Made (s ÷ z^_1 m) q
unfolding quotient_list
made-quotient {s} {l} {q} m one made e =
    rw e
    (record {
      fit = λ i. by_order i (length l) (λ b. rw (firsts_here (length l) (quotient m (entries l)) i b) (fits i))
          (λ b. rw (firsts_past (length l) (quotient m (entries l)) i b) (record { sfits = omega arith }));
      like = λ i b.
          let c : i < length l = omega (arith, length-firsts (length l) (quotient m (entries l))) in
          ap wrap (firsts_here (length l) (quotient m (entries l)) i c)
          ∙ same i
          ∙ quotient_like (length l) m one (entries l) s made.like i c;
    })
  where
    fits : (i : ℕ) → SFits w64 (quotient m (entries l) i)
    fits i = unfold quotient in wrap_fits _

    same : (i : ℕ) → wrap (quotient m (entries l) i) ≡ wrap ((entries l ÷ z^_1 m) i)
    same i = unfold quotient in wrap-wrap _

-- ---- got to some place
abbrev pub Lower : ℕ → List ℤ → List ℤ → ℕ → Type 0
Lower m l q i = Split q (length l) i (quotient m (entries l)) (entries l)

module _ (m : ℕ) (one : 1 ≤ m) (l : List ℤ) where
  pub low-start : Lower m l l 0
  unfolding entries
  low-start =
      record { len = refl; below = λ k b c. absurd (not-suc-le-zero b); above = λ k b c. refl }

  module _ {q : List ℤ} {i : ℕ} (p : Lower m l q i) where
    pub low-next : i < m → i < length l → (v : ℤ) → v ≡ wrap (0ℤ ⊝ entries q i) → Lower m l (set q i v) (i + 1)
    unfolding entries
    low-next b c v e =
        moved_up p i (i + 1) c refl refl v
        (e ∙ ap (λ v. wrap (0ℤ ⊝ v)) (p.above i (omega arith) c) ∙ low_value m one (entries l) i b)

    pub next_one : m ≤ i → i < length l → (v : ℤ) → v ≡ wrap (entries q (i - m) ⊝ entries q i)
        → Lower m l (set q i v) (i + 1)
    unfolding entries
    next_one far c v e =
        moved_up p i (i + 1) c refl refl v
        (e ∙ ap (λ v. wrap (v ⊝ entries q i)) (p.below (i - m) (omega arith) (omega arith))
        ∙ ap (λ v. wrap (quotient m (entries l) (i - m) ⊝ v)) (p.above i (omega arith) c)
        ∙ next-value m one (entries l) i far)

    pub ended : length l ≤ i → q ≡ quotient_list m l
    unfolding quotient_list
    ended h = all_firsts (all_below p h)

-- by z - 1, with what is carried
pub running_next : (l : List ℤ) {q : List ℤ} {i : ℕ} {v w : ℤ} → Lower 1 l q i → v ≡ carried_at (entries l) i
    → i < length l → w ≡ wrap (v ⊝ entries q i)
    → (w ≡ carried_at (entries l) (i + 1)) × Lower 1 l (set q i w) (i + 1)
unfolding entries
running_next l {q} {i} {v} {w} p e c s = (
  value ∙ carried_next (entries l) i,
  moved_up p i (i + 1) c refl refl w value,
)
  where
    value : w ≡ quotient 1 (entries l) i
    value =
        s ∙ ap₂ (λ x y. wrap (x ⊝ y)) e (p.above i (omega arith) c)
        ∙ carried_value (entries l) i

pub running_ends : (l : List ℤ) {q : List ℤ} {i : ℕ} → Lower 1 l q i → length l ≤ i → q ≡ quotient_list 1 l
unfolding quotient_list
running_ends l p h = all_firsts (all_below p h)

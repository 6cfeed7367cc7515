-- A row that is added from a place on, entry by entry; rows one after the other; and one row c times.
use Prim.Native.Nat.{ℕ, ◌+◌, ◌-◌, ◌<◌, ◌≤◌, min}
use mathlib.Core.Path.{◌≡◌, refl, sym, ◌∙◌, ap, fun_ext}
use mathlib.Core.Bool.{Bool, true, false, cond}
use mathlib.Core.List.{List, [], ◌∷◌}
use native.Mathlib.Omega.{arith}
use borrow.Author.Tests.{lt-ltb, le-ltb}
use lib.Dec.{ltb}
use lib.ListN.{length, set, get_or-eq_default}
use lib.IntN.{ℤ, pos, negsuc, nat_abs}
use lib.Signed.{lt_z}
use mir.Syntax.{w64}
use mir.Val.{SFits}
use Rattle.definitions.specs.Integers.{◌⊕◌, ◌⊗◌, ⊖, 0ℤ, 1ℤ}
use Rattle.definitions.specs.Series.{Series, constant, 𝟘, ◌+ˢ◌, ◌·◌, z^}
use Rattle.definitions.specs.Steps.{entries}
use Rattle.integers.specs.Solver.{:0, :1, ◌:+◌, ◌:*◌, :-, x, y, z}
use Rattle.integers.specs.Whole.{⊕_zero, ⊖-zero, ringℤ}
use Rattle.series.specs.Laws.{constant-mul, constants_add, at_+ˢ, +ˢ_zero, ringˢ}
use Rattle.series.specs.Maps.{shift_below, shift_from}
use Rattle.step_laws.specs.Tests.{by_order}
use Rattle.entry_steps.specs.Passes.{Split}
use Rattle.entry_steps.proofs.Split.{moved_up}
use Rattle.wrapped_sums.specs.Wrapped.{wrap, Like, AllFit}
use Rattle.wrapped_sums.specs.Residues.{wrap_fits, wrap-wrap, like_⊕}
use Rattle.spread_products.specs.Rows.{signed, Added}

-- f with g added from the place `at` on
unfoldable pub row_added : Bool → ℕ → Series → Series → Series
row_added away at g f k = cond (ltb k at) (f k) (wrap (f k ⊕ signed away (g (k - at))))

-- such a row that has got to the place j of g
pub record RowTo (away : Bool) (at : ℕ) (g l m : List ℤ) (j : ℕ) : Type 0 where
  pub split : Split m (length l) (at + j) (row_added away at (entries g) (entries l)) (entries l)

signed-none : (away : Bool) → signed away 0ℤ ≡ 0ℤ
unfolding signed
signed-none true = ⊖-zero
signed-none false = refl

module _ (away : Bool) (at : ℕ) (g l : List ℤ) where
  row_below : (k : ℕ) → k < at → row_added away at (entries g) (entries l) k ≡ entries l k
  unfolding row_added
  row_below k b = rw (lt-ltb k at b)

  row_from : (k : ℕ) → at ≤ k → row_added away at (entries g) (entries l) k
      ≡ wrap (entries l k ⊕ signed away (entries g (k - at)))
  unfolding row_added
  row_from k b = rw (le-ltb k at b)

  pub row-start : RowTo away at g l l 0
  unfolding entries
  row-start =
      record {
        split =
            record {
              len = refl;
              below = λ k b m. sym (row_below k (omega arith));
              above = λ k b m. refl;
            };
      }

  module _ {m : List ℤ} {j : ℕ} (p : RowTo away at g l m j) where
    pub row_next : at + j < length l → (v : ℤ) → v ≡ wrap (entries m (at + j) ⊕ signed away (entries g j))
        → RowTo away at g l (set m (at + j) v) (j + 1)
    unfolding entries
    row_next b v e =
        let back : at + j - at ≡ j = omega arith in
        record {
          split =
              moved_up p.split (at + j) (at + (j + 1)) b refl (omega arith) v
              (e ∙ ap (λ v. wrap (v ⊕ signed away (entries g j))) (p.split.above (at + j) (omega arith) b)
              ∙ ap (λ i. wrap (entries l (at + j) ⊕ signed away (entries g i))) (sym back)
              ∙ sym (row_from (at + j) (omega arith)));
        }

    module _ (ends : min (length g) (length l - at) ≤ j) where
      abbrev s : Series
      s = z^ at · (λ i. signed away (entries g i))

      -- past the end of g
      past : (k : ℕ) → at + j ≤ k → k < length l → entries g (k - at) ≡ 0ℤ
      unfolding entries
      past k b c = get_or-eq_default g 0ℤ (omega (arith, ends))

      fits_at : AllFit l → (k : ℕ) → k < length l → SFits w64 (entries m k)
      unfolding entries
      fits_at fit k c =
          by_order k (at + j)
          (λ low. rw (p.split.below k low c)
          (by_order k at (λ b. rw (row_below k b) (fit k))
          (λ b. rw (row_from k b) (wrap_fits _))))
          (λ high. rw (p.split.above k high c) (fit k))

      none_past : (k : ℕ) → length l ≤ k → SFits w64 (entries m k)
      unfolding entries
      none_past k c =
          let far : length m ≤ k = omega (arith, p.split.len) in
          rw (get_or-eq_default m 0ℤ far) (record { sfits = omega arith })

      like_at : Like (length l) (entries m) (entries l +ˢ s)
      unfolding entries
      like_at k c =
          by_order k at
          (λ b. ap wrap (p.split.below k (omega arith) c ∙ row_below k b
          ∙ sym (at_+ˢ (entries l) s k ∙ ap (λ v. entries l k ⊕ v) (shift_below at _ k b) ∙ ⊕_zero (entries l k))))
          (λ b. by_order k (at + j)
          (λ low. ap wrap (p.split.below k low c ∙ row_from k b) ∙ wrap-wrap _
          ∙ ap wrap (sym (at_+ˢ (entries l) s k ∙ ap (λ v. entries l k ⊕ v) (shift_from at _ k b))))
          (λ high. ap wrap (p.split.above k high c
          ∙ sym (at_+ˢ (entries l) s k ∙ ap (λ v. entries l k ⊕ v) (shift_from at _ k b
          ∙ ap (signed away) (past k high c) ∙ signed-none away) ∙ ⊕_zero (entries l k)))))

      pub row_ends : Added s l m
      row_ends =
          record {
            len = p.split.len;
            fit = λ f k. by_order k (length l) (fits_at f k) (none_past k);
            like = like_at;
          }

-- ---- rows one after the other
pub added_none : (s : Series) (l : List ℤ) → s ≡ 𝟘 → Added s l l
added_none s l e =
    rw e (record { len = refl; fit = λ f. f; like = λ i b. ap (λ q. wrap (q i)) (sym (+ˢ_zero (entries l))) })

pub added_both : {s t u : Series} {l m q : List ℤ} → Added s l m → Added t m q → s +ˢ t ≡ u → Added u l q
added_both {s} {t} {u} {l} {m} {q} a b e =
    rw (sym e)
    (record {
      len = b.len ∙ a.len;
      fit = λ f. b.fit (a.fit f);
      like = λ i c.
          b.like i (omega (arith, a.len))
          ∙ ap wrap (at_+ˢ (entries m) t i)
          ∙ like_⊕ (entries m i) ((entries l +ˢ s) i) (t i) (t i) (a.like i c) refl
          ∙ ap wrap (sym (at_+ˢ (entries l +ˢ s) t i))
          ∙ ap (λ f. wrap (f i)) (ringˢ (entries l ∷ s ∷ t ∷ []) (x :+ y :+ z) (x :+ (y :+ z)) refl);
    })

-- ---- c times
signed-times : (away : Bool) (v : ℤ) → signed away v ≡ signed away 1ℤ ⊗ v
unfolding signed
signed-times true v = ringℤ (v ∷ []) (:- x) (:- :1 :* x) refl
signed-times false v = ringℤ (v ∷ []) x (:1 :* x) refl

signed-next : (away : Bool) (q : ℕ) → signed away (pos q) ⊕ signed away 1ℤ ≡ signed away (pos (q + 1))
unfolding signed ◌⊕◌
signed-next true q = neg q
  where
    neg : (q : ℕ) → ⊖ (pos q) ⊕ ⊖ 1ℤ ≡ ⊖ (pos (q + 1))
    neg q = ringℤ (pos q ∷ []) (:- x :+ :- :1) (:- (x :+ :1)) refl
signed-next false q = refl

-- what is added q times
unfoldable pub times : Bool → ℕ → ℕ → List ℤ → Series
times away q at g = constant (signed away (pos q)) · (z^ at · entries g)

one-row : (away : Bool) (at : ℕ) (g : List ℤ) → z^ at · (λ i. signed away (entries g i))
    ≡ constant (signed away 1ℤ) · (z^ at · entries g)
one-row away at g =
    ap (λ f. z^ at · f)
    (fun_ext (λ i. signed-times away (entries g i) ∙ sym (constant-mul (signed away 1ℤ) (entries g) i)))
    ∙ ringˢ (z^ at ∷ constant (signed away 1ℤ) ∷ entries g ∷ []) (x :* (y :* z)) (y :* (x :* z)) refl

-- q rows were added
pub record RowsAdded (away : Bool) (at : ℕ) (g l m : List ℤ) (q : ℕ) : Type 0 where
  pub rows : Added (times away q at g) l m

pub no_rows : (away : Bool) (at : ℕ) (g l : List ℤ) → RowsAdded away at g l l 0
unfolding times signed
no_rows away at g l = record { rows = added_none _ l (go away) }
  where
    none : constant 0ℤ · (z^ at · entries g) ≡ 𝟘
    none = ringˢ ((z^ at · entries g) ∷ []) (:0 :* x) :0 refl

    go : (away : Bool) → constant (cond away (⊖ (pos 0)) (pos 0)) · (z^ at · entries g) ≡ 𝟘
    go true = ap (λ v. constant v · (z^ at · entries g)) ⊖-zero ∙ none
    go false = none

pub one_more : {away : Bool} {at : ℕ} {g l m k : List ℤ} {q : ℕ} → RowsAdded away at g l m q
    → Added (z^ at · (λ i. signed away (entries g i))) m k → RowsAdded away at g l k (q + 1)
unfolding times
one_more {away} {at} {g} {l} {m} {k} {q} a b =
    record {
      rows =
          added_both a.rows b
          (ap (λ s. constant (signed away (pos q)) · (z^ at · entries g) +ˢ s) (one-row away at g)
          ∙ ringˢ (constant (signed away (pos q)) ∷ constant (signed away 1ℤ) ∷ (z^ at · entries g) ∷ [])
          (x :* z :+ y :* z) ((x :+ y) :* z) refl
          ∙ ap (λ s. s · (z^ at · entries g))
          (sym (constants_add (signed away (pos q)) (signed away 1ℤ)) ∙ ap constant (signed-next away q)));
    }

whole-number : (c : ℤ) → signed (lt_z c (pos 0)) (pos (nat_abs c)) ≡ c
unfolding signed ⊖
whole-number (pos n) = rw (le-ltb n 0 (omega arith)) refl
whole-number (negsuc n) = refl

pub all_rows : (c : ℤ) {at : ℕ} {g l m : List ℤ} {q : ℕ} → RowsAdded (lt_z c (pos 0)) at g l m q → q ≡ nat_abs c
    → Added (constant c · (z^ at · entries g)) l m
unfolding times
all_rows c {at} {g} {l} {m} {q} a e =
    rw (sym (ap (λ v. constant v · (z^ at · entries g)) (ap (λ n. signed (lt_z c (pos 0)) (pos n)) e ∙ whole-number c)))
    a.rows

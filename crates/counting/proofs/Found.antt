-- What a pass finds: no height from `due` on occurs, or the row is that of the least one that does (`next-found`, by
-- induction over the indices). So what stood below it and its row is all that stands up to it (`rows_some`), and where
-- none is due all rows are there (`rows_none`).
use Prim.Native.Nat.{ℕ, zero, suc, ◌+◌, ◌-◌, ◌≤◌, ◌<◌}
use mathlib.Core.Path.{◌≡◌, refl, sym, ◌∙◌, ap}
use mathlib.Core.Bool.{Bool, true, false, cond}
use mathlib.Core.List.{List, [], ◌∷◌, ◌++◌, append-nil}
use native.Mathlib.Omega.{arith}
use native.Mathlib.Nat as NatL
use borrow.Author.Tests.{ltb-true, ltb-false, eq-eqb, ne_eqb}
use lib.Dec.{ltb}
use lib.ListN.{length}
use Rattle.definitions.specs.Answer.{height}
use Rattle.std.specs.Prelude.{Option, Some, None, IfSome}
use Rattle.counting.specs.declared.passes.Row.{Row}
use Rattle.counting.specs.Census.{indices, with_height, tallest, row_of, rows_below, rows_of}
use Rattle.counting.specs.Passes.{row_list, first_of, row_with, joined_to, next_row}

-- one index more, of another height or of this one
with_other : (h n : ℕ) (ns : List ℕ) → (height 1 n ≡ h → ⊥) → with_height h (n ∷ ns) ≡ with_height h ns
unfolding with_height
with_other h n ns ne = rw (ne_eqb (height 1 n) h ne) refl

with_this : (n : ℕ) (ns : List ℕ) → with_height (height 1 n) (n ∷ ns) ≡ n ∷ with_height (height 1 n) ns
unfolding with_height
with_this n ns = rw (eq-eqb (height 1 n) (height 1 n) refl) refl

-- no height from `due` to below `end` occurs
abbrev Free : (due end : ℕ) → List ℕ → Type 0
Free due end ns = (h : ℕ) → due ≤ h → h < end → with_height h ns ≡ []

-- the row is that of the least height from `due` on
pub record Least (due : ℕ) (ns : List ℕ) (row : Row) : Type 0 where
  pub rest : List ℕ
  pub have : with_height row.height ns ≡ row.smallest ∷ rest
  pub many : row.count ≡ suc (length rest)
  pub from : due ≤ row.height
  pub free : Free due row.height ns
  pub most : row.height ≤ tallest ns

abbrev pub Found : (due : ℕ) → List ℕ → Option Row → Type 0
Found due ns None = (h : ℕ) → due ≤ h → with_height h ns ≡ []
Found due ns (Some row) = Least due ns row

module _ (due n : ℕ) (ns : List ℕ) where
  taller : tallest ns ≤ tallest (n ∷ ns)
  unfolding tallest
  taller = NatL.le-max_right (height 1 n) (tallest ns)

  new_tallest : height 1 n ≤ tallest (n ∷ ns)
  unfolding tallest
  new_tallest = NatL.le-max_left (height 1 n) (tallest ns)

  -- an index of a height that is not due, or is above the row's
  stays : (row : Row) → Least due ns row → ((h : ℕ) → due ≤ h → h ≤ row.height → height 1 n ≡ h → ⊥)
      → Least due (n ∷ ns) row
  stays row l apart = record {
    rest = l.rest;
    have = with_other row.height n ns (apart row.height l.from (NatL.le_refl row.height)) ∙ l.have;
    many = l.many;
    from = l.from;
    free = λ h f b. with_other h n ns (apart h f (omega arith)) ∙ l.free h f b;
    most = NatL.le_trans l.most taller;
  }

  -- one of a height that is due, below all others
  begins : due ≤ height 1 n → Free due (suc (height 1 n)) ns
      → Least due (n ∷ ns) (record { height = height 1 n; smallest = n; count = 1 })
  begins f free = record {
    rest = [];
    have = with_this n ns ∙ ap (λ l. n ∷ l) (free (height 1 n) f (omega arith));
    many = refl;
    from = f;
    free = λ h g b. with_other h n ns (λ e. omega arith) ∙ free h g (omega arith);
    most = new_tallest;
  }

  -- one of the row's height
  joins : (row : Row) → Least due ns row → height 1 n ≡ row.height
      → Least due (n ∷ ns) (record { height = height 1 n; smallest = n; count = suc row.count })
  joins row l e = record {
    rest = row.smallest ∷ l.rest;
    have = with_this n ns ∙ ap (λ x. n ∷ x) (ap (λ x. with_height x ns) e ∙ l.have);
    many = ap suc l.many;
    from = rw e l.from;
    free = λ h g b. with_other h n ns (λ x. omega arith) ∙ l.free h g (omega arith);
    most = new_tallest;
  }

  -- one of a height that is due: it is below the row's, above it, or the same
  with_least : (row : Row) → Least due ns row → due ≤ height 1 n → Least due (n ∷ ns) (row_with (height 1 n) n row)
  unfolding row_with
  with_least row l d = by_less (ltb (height 1 n) row.height) refl
    where
      again : Row
      again = record { height = height 1 n; smallest = n; count = suc row.count }

      by_more : (b : Bool) → ltb row.height (height 1 n) ≡ b → row.height ≤ height 1 n
          → Least due (n ∷ ns) (cond b row again)
      by_more true e m = stays row l (λ h g k x. omega (arith, ltb-true row.height (height 1 n) e))
      by_more false e m = joins row l (omega (arith, ltb-false row.height (height 1 n) e))

      by_less : (b : Bool) → ltb (height 1 n) row.height ≡ b
          → Least due (n ∷ ns) (cond b (first_of (height 1 n) n) (cond (ltb row.height (height 1 n)) row again))
      by_less true e = begins d (λ h g k. l.free h g (omega (arith, ltb-true (height 1 n) row.height e)))
      by_less false e = by_more (ltb row.height (height 1 n)) refl (ltb-false (height 1 n) row.height e)

  join_found : (row : Option Row) → Found due ns row → Found due (n ∷ ns) (joined_to due (height 1 n) n row)
  unfolding joined_to
  join_found None free = go (ltb (height 1 n) due) refl
    where
      go : (b : Bool) → ltb (height 1 n) due ≡ b → Found due (n ∷ ns) (cond b None (Some (first_of (height 1 n) n)))
      go true e = λ h l. with_other h n ns (λ x. omega (arith, ltb-true (height 1 n) due e)) ∙ free h l
      go false e = begins (ltb-false (height 1 n) due e) (λ h g k. free h g)
  join_found (Some row) l = go (ltb (height 1 n) due) refl
    where
      go : (b : Bool) → ltb (height 1 n) due ≡ b
          → Found due (n ∷ ns) (cond b (Some row) (Some (row_with (height 1 n) n row)))
      go true e = stays row l (λ h g k x. omega (arith, ltb-true (height 1 n) due e))
      go false e = with_least row l (ltb-false (height 1 n) due e)

pub next-found : (due : ℕ) (ns : List ℕ) → Found due ns (next_row due ns)
unfolding next_row with_height
next-found due [] = λ h l. refl
next-found due (n ∷ ns) = join_found due n ns (next_row due ns) (next-found due ns)

pub nothing_due : (due a k : ℕ) → k ≡ 0 → next_row due (indices a k) ≡ None
unfolding next_row indices
nothing_due due a k e = ap (λ j. next_row due (indices a j)) e

-- one index more in front
pub next_more : (due n : ℕ) (ns : List ℕ) → next_row due (n ∷ ns) ≡ joined_to due (height 1 n) n (next_row due ns)
unfolding next_row
next_more due n ns = refl

-- a row has no more indices than there are
join_most : (due h n m : ℕ) (row : Option Row) → IfSome row (λ r. r.count ≤ m)
    → IfSome (joined_to due h n row) (λ r. r.count ≤ suc m)
unfolding joined_to row_with
join_most due h n m None few = go (ltb h due)
  where
    go : (x : Bool) → IfSome (cond x None (Some (first_of h n))) (λ r. r.count ≤ suc m)
    go true = tt
    go false = omega arith
join_most due h n m (Some row) few = go (ltb h due) (ltb h row.height) (ltb row.height h)
  where
    go : (x y z : Bool) → IfSome (cond x (Some row)
        (Some (cond y (first_of h n) (cond z row (record { height = h; smallest = n; count = suc row.count })))))
        (λ r. r.count ≤ suc m)
    go true y z = omega arith
    go false true z = omega arith
    go false false true = omega arith
    go false false false = omega arith

pub count_most : (due : ℕ) (ns : List ℕ) → IfSome (next_row due ns) (λ r. r.count ≤ length ns)
unfolding next_row
count_most due [] = tt
count_most due (n ∷ ns) = join_most due (height 1 n) n (length ns) (next_row due ns) (count_most due ns)

-- ---- rows
rows_suc : (ns : List ℕ) (h : ℕ) → rows_below (suc h) ns ≡ rows_below h ns ++ row_of h (with_height h ns)
unfolding rows_below
rows_suc ns h = refl

no_row_lem : (h : ℕ) (rows : List ℕ) → rows ++ row_of h [] ≡ rows
unfolding row_of
no_row_lem h rows = append-nil rows

-- no row of a height that doesn't occur
rows_free : (ns : List ℕ) (due k : ℕ) → Free due (due + k) ns → rows_below (due + k) ns ≡ rows_below due ns
rows_free ns due zero free = ap (λ x. rows_below x ns) (NatL.add-zero due)
rows_free ns due (suc k) free =
    ap (λ x. rows_below x ns) (NatL.add-suc due k)
    ∙ (rows_suc ns (due + k) ∙ (ap (λ l. rows_below (due + k) ns ++ row_of (due + k) l) (free (due + k) (omega arith)
    (omega arith))
    ∙ (no_row_lem (due + k) (rows_below (due + k) ns) ∙ rows_free ns due k (λ h f b. free h f (omega arith)))))

module _ (due : ℕ) (ns : List ℕ) where
  pub rows_some : (row : Row) → Least due ns row
      → rows_below (suc row.height) ns ≡ rows_below due ns ++ row_list row
  unfolding rows_below row_of
  rows_some row l =
      let upto : rows_below row.height ns ≡ rows_below due ns =
      ap (λ x. rows_below x ns) (sym (NatL.add-sub_of_le l.from))
      ∙ rows_free ns due (row.height - due) (λ h f b. l.free h f (omega (arith, l.from))) in
      rw (upto, l.have, l.many) refl

  pub rows_none : ((h : ℕ) → due ≤ h → with_height h ns ≡ []) → due ≤ suc (tallest ns) → rows_of ns ≡ rows_below due ns
  unfolding rows_of
  rows_none free l =
      ap (λ x. rows_below x ns) (sym (NatL.add-sub_of_le l))
      ∙ rows_free ns due (suc (tallest ns) - due) (λ h f b. free h f)

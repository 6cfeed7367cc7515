-- The walk over a shelf finds the first of its records, as the shelf is cut into them, that is of the kind and index.
use Prim.Native.Nat.{ℕ, zero, suc, ◌+◌, ◌-◌, ◌≤◌}
use mathlib.Core.Path.{◌≡◌, refl, sym, ap, ◌∙◌}
use mathlib.Core.Bool.{Bool, true, false, cond, ◌&&◌, true≢false}
use mathlib.Core.List.{List, [], ◌∷◌, ◌++◌}
use mathlib.Core.Logic.{inl, inr}
use native.Mathlib.Omega.{arith}
use native.Mathlib.Nat.{add-zero, add_assoc}
use lib.ListN.{length, drop, length-append, length-drop}
use lib.Dec.{eqb}
use borrow.Author.Tests.{eqb-true, eq-eqb}
use Rattle.definitions.specs.Codes.{DONE}
use Rattle.record.specs.Header.{kind_in, index_in}
use Rattle.record.proofs.HeaderTrips.{and_both}
use Rattle.shelf.proofs.Alone.{size_least}
use Rattle.browsing.specs.Browse.{shown_at}
use Rattle.browsing.specs.Cut.{Records, laid, Rest, Cut, rest_as}
use Rattle.browsing.proofs.Cuts.{shown_whole, next_from, shown_rest}
use Rattle.shelves.specs.declared.Walked.{Walked}
use Rattle.shelves.specs.declared.Walked.TheVariants.{Match, Stopped, Ended}
use Rattle.shelves.specs.Walk.{earlier, asked, onward, walk_from, walked}
use Rattle.shelves.specs.First.{First, None, first_of}
use Rattle.shelves.proofs.Walking.{walk_end}

module _ (kind n : ℕ) where
  -- a record that is asked for goes before what comes after
  asked-first : (k m start end : ℕ) (w : Walked) → earlier (asked kind n k m start end) w
      ≡ cond (eqb k kind && eqb m n) (Match start end) w
  unfolding asked earlier
  asked-first k m start end w = go (eqb k kind && eqb m n)
    where
      go : (b : Bool) → earlier (cond b (Match start end) Ended) w ≡ cond b (Match start end) w
      go true = refl
      go false = refl

  module _ (shelf rest : List ℕ) (c : Rest rest) where
    -- no record is left
    walk-rest : (most at : ℕ) (r : List ℕ) → drop at shelf ≡ r → shown_at shelf at ≡ rest_as at r
        → length shelf - at ≤ most → walk_from most kind n shelf at ≡ first_of kind n at [] r
    unfolding walk_from onward first_of rest_as
    walk-rest most at [] e s room = walk_end kind n shelf most at (omega (arith, length-drop at shelf, ap length e))
    walk-rest zero at (b ∷ bs) e s room = absurd (omega (arith, length-drop at shelf, ap length e))
    walk-rest (suc most) at (b ∷ bs) e s room = rw s

    walk_from_lem : (ss : List (List ℕ)) (most at : ℕ) → at ≤ length shelf → drop at shelf ≡ laid ss rest → Records ss
        → length shelf - at ≤ most → walk_from most kind n shelf at ≡ first_of kind n at ss rest
    unfolding walk_from onward first_of laid
    walk_from_lem [] most at l e r room = walk-rest most at rest e (shown_rest shelf rest at e l c) room
    walk_from_lem (s ∷ ss) zero at l e (w, ws) room =
        absurd (omega (arith, length-drop at shelf, ap length e, length-append s (laid ss rest), size_least s, w.1))
    walk_from_lem (s ∷ ss) (suc most) at l e (w, ws) room =
        let inside : at + length s ≤ length shelf =
        omega (arith, length-drop at shelf, ap length e, length-append s (laid ss rest)) in
        rw (
          shown_whole shelf s (laid ss rest) at e w,
          walk_from_lem ss most (at + length s) inside (next_from shelf s (laid ss rest) at e w) ws
              (omega (arith, size_least s, w.1)),
        )
        (asked-first (kind_in s) (index_in s) at (at + length s) (first_of kind n (at + length s) ss rest))

  pub walk_cut : (shelf : List ℕ) (ss : List (List ℕ)) (rest : List ℕ) → Cut shelf ss rest
      → walked kind n shelf ≡ first_of kind n 0 ss rest
  unfolding walked
  walk_cut shelf ss rest (e, r, c) = walk_from_lem shelf rest c ss (length shelf) 0 (omega arith) e r (omega arith)

  -- a match among some records is the first of them, a stop is a refusal, and at the end there is none
  abbrev pub FirstFrom : List ℕ → ℕ → Walked → Type 0
  FirstFrom shelf at (Match start end) = (s : List ℕ) × (place : ℕ) × First kind n shelf place s × (start ≡ at + place)
      × (end ≡ start + length s)
  FirstFrom shelf at (Stopped code start) = code ≡ DONE → ⊥
  FirstFrom shelf at Ended = None kind n shelf

  other : (k m : ℕ) → (eqb k kind && eqb m n) ≡ false → (k ≡ kind) × (m ≡ n) → ⊥
  other k m e (ek, em) = true≢false (sym (rw (eq-eqb k kind ek, eq-eqb m n em) refl) ∙ e)

  this : (k m : ℕ) → (eqb k kind && eqb m n) ≡ true → (k ≡ kind) × (m ≡ n)
  this k m e =
      let b = and_both (eqb k kind) (eqb m n) e in
      (eqb-true k kind b.0, eqb-true m n b.1)

  pub first_from : (ss : List (List ℕ)) (rest : List ℕ) (at : ℕ) → Records ss
      → Rest rest → FirstFrom (laid ss rest) at (first_of kind n at ss rest)
  unfolding first_of laid
  first_from [] [] at r c = ([], refl, tt, tt)
  first_from [] (b ∷ bs) at r (inl e) = absurd (omega (arith, ap length e))
  first_from [] (b ∷ bs) at r (inr d) = d
  first_from (s ∷ ss) rest at (w, ws) c =
      go (eqb (kind_in s) kind && eqb (index_in s) n) refl (first_of kind n (at + length s) ss rest)
      (first_from ss rest (at + length s) ws c)
    where
      past : (x : Walked) → ((kind_in s ≡ kind) × (index_in s ≡ n) → ⊥) → FirstFrom (laid ss rest) (at + length s) x
          → FirstFrom (laid (s ∷ ss) rest) at x
      past (Match start end) o (t, place, f, es, ee) = (
        t,
        length s + place,
        record {
          whole = f.whole;
          kind_is = f.kind_is;
          index_is = f.index_is;
          before = s ∷ f.before;
          after = f.after;
          stands = ap (λ (l : List ℕ). s ++ l) f.stands;
          at = ap (λ (k : ℕ). length s + k) f.at ∙ sym (length-append s (laid f.before []));
          records = (w, f.records);
          others = (o, f.others);
        },
        es ∙ add_assoc at (length s) place,
        ee,
      )
      past (Stopped code start) o f = f
      past Ended o (ts, e, r, others) = (s ∷ ts, ap (λ (l : List ℕ). s ++ l) e, (w, r), (o, others))

      go : (b : Bool) → (eqb (kind_in s) kind && eqb (index_in s) n) ≡ b → (x : Walked)
          → FirstFrom (laid ss rest) (at + length s) x
          → FirstFrom (laid (s ∷ ss) rest) at (cond b (Match at (at + length s)) x)
      go false e x f = past x (other (kind_in s) (index_in s) e) f
      go true e x f =
          let m = this (kind_in s) (index_in s) e in (
            s,
            0,
            record {
              whole = w;
              kind_is = m.0;
              index_is = m.1;
              before = [];
              after = laid ss rest;
              stands = refl;
              at = refl;
              records = tt;
              others = tt;
            },
            sym (add-zero at),
            refl,
          )

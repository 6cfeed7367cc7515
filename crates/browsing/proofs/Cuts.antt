-- What a reader gives one after another is the shelf cut into its records: of every cut of a shelf, and every shelf has
-- one. After the last record comes the end or the refusal, again and again: there the reader stays.
use Prim.Native.Nat.{ℕ, zero, suc, ◌+◌, ◌<◌, ◌≤◌}
use mathlib.Core.Path.{◌≡◌, refl, sym, ap, ap₂, ◌∙◌}
use mathlib.Core.Bool.{Bool, true, false}
use mathlib.Core.List.{List, [], ◌∷◌, ◌++◌, append_assoc}
use mathlib.Core.Logic.{inl, inr}
use native.Mathlib.Omega.{arith}
use native.Mathlib.Nat.{zero-add, suc-add, add-zero, add_assoc}
use lib.ListN.{length, take, drop, length-append, length-drop, take-append-drop}
use lib.Seq.{drop_at, drop-drop}
use lib.Dec.{eqb}
use borrow.Author.Tests.{eqb-true, eqb-false}
use Rattle.definitions.specs.Codes.{DONE}
use Rattle.record.specs.Header.{kind_in, index_in, degree_in}
use Rattle.record.proofs.Fronts.{kind-front, index-front, degree-front}
use Rattle.shelf.specs.Format.{size_in, look_code}
use Rattle.shelf.proofs.Alone.{size_least, size-front, look_front, whole-alone}
use Rattle.browsing.specs.declared.Shown.{Shown}
use Rattle.browsing.specs.declared.Shown.TheVariants.{Record, End}
use Rattle.browsing.specs.Browse.{shown_of, shown_at, place_after, turn_at}
use Rattle.browsing.specs.Cut.{Whole, Records, laid, Rest, Cut, shown_as, rest_as, gives, goes, repeated}
use Rattle.browsing.proofs.Showing.{shown_record, shown_end, shown_in, shown_refused}

-- the records are in front of the rest
pub laid-front : (ss : List (List ℕ)) (rest : List ℕ) → laid ss rest ≡ laid ss [] ++ rest
unfolding laid
laid-front [] rest = refl
laid-front (s ∷ ss) rest =
    ap (λ (l : List ℕ). s ++ l) (laid-front ss rest) ∙ sym (append_assoc s (laid ss []) rest)

-- a record that stands at a place is shown as it is by itself
module _ (shelf s more : List ℕ) (at : ℕ) (e : drop at shelf ≡ s ++ more) (w : Whole s) where
  long : 10 ≤ length s
  long = omega (arith, w.1, size_least s)

  inside : at < length shelf
  inside = omega (arith, length-drop at shelf, ap length e, length-append s more, long)

  pub shown_whole : shown_at shelf at ≡ Record at (at + length s) (kind_in s) (index_in s) (degree_in s)
  shown_whole =
      shown_in shelf at inside ∙ ap (shown_of at) e
      ∙ shown_record at (s ++ more) (look_front s more long (omega (arith, w.1)) ∙ w.0) (length s) (kind_in s)
      (index_in s) (degree_in s) (sym (size-front s more long ∙ w.1)) (sym (kind-front s more long))
      (sym (index-front s more long)) (sym (degree-front s more long))

  pub next_from : drop (at + length s) shelf ≡ more
  next_from = sym (drop-drop (length s) at shelf) ∙ ap (drop (length s)) e ∙ drop_at s more (length s) refl

-- the records, from a place on; and what stands after them
record Given (shelf : List ℕ) (ss : List (List ℕ)) (rest : List ℕ) (at : ℕ) : Type 0 where
  shows : gives (length ss) shelf at ≡ shown_as at ss
  ends : goes (length ss) shelf at ≡ at + length (laid ss [])
  leaves : drop (at + length (laid ss [])) shelf ≡ rest

given_records : (shelf : List ℕ) (ss : List (List ℕ)) (rest : List ℕ) (at : ℕ) → drop at shelf ≡ laid ss rest
    → Records ss → Given shelf ss rest at
unfolding gives goes laid shown_as turn_at
given_records shelf [] rest at e r = record { shows = refl; ends = sym (add-zero at); leaves = rw (add-zero at) e }
given_records shelf (s ∷ ss) rest at e (w, ws) =
    let shown = shown_whole shelf s (laid ss rest) at e w in
    let more = given_records shelf ss rest (at + length s) (next_from shelf s (laid ss rest) at e w) ws in
    let place : place_after (shown_at shelf at) ≡ at + length s = unfold place_after in ap place_after shown in
    let far : at + length (s ++ laid ss []) ≡ at + length s + length (laid ss []) =
    rw length-append (sym (add_assoc at (length s) (length (laid ss [])))) in
    record {
      shows =
          rw (place, shown)
          (ap (λ (l : List Shown). Record at (at + length s) (kind_in s) (index_in s) (degree_in s) ∷ l) more.shows);
      ends = ap (goes (length ss) shelf) place ∙ more.ends ∙ sym far;
      leaves = ap (λ (k : ℕ). drop k shelf) far ∙ more.leaves;
    }

-- the rest, where the reader stays
module _ (shelf rest : List ℕ) (at : ℕ) (e : drop at shelf ≡ rest) (end : at ≤ length shelf) where
  pub shown_rest : Rest rest → shown_at shelf at ≡ rest_as at rest
  unfolding rest_as
  shown_rest c = go rest e c
    where
      go : (r : List ℕ) → drop at shelf ≡ r → Rest r → shown_at shelf at ≡ rest_as at r
      go [] f d =
          let same : length shelf ≡ at = omega (arith, length-drop at shelf, ap length f) in
          shown_end shelf at (omega arith) ∙ ap End same
      go (b ∷ bs) f (inl d) = absurd (omega (arith, ap length d))
      go (b ∷ bs) f (inr d) =
          shown_refused shelf at (omega (arith, length-drop at shelf, ap length f)) (look_code (b ∷ bs))
          (ap look_code (sym f)) d

  stays_at : (r : List ℕ) → place_after (rest_as at r) ≡ at
  unfolding rest_as place_after
  stays_at [] = refl
  stays_at (b ∷ bs) = refl

  gives-rest : Rest rest → (k : ℕ) → gives k shelf at ≡ repeated k (rest_as at rest)
  unfolding gives repeated turn_at
  gives-rest c zero = refl
  gives-rest c (suc k) =
      let shown = shown_rest c in
      ap₂ (λ (s : Shown) (p : ℕ). s ∷ gives k shelf p) shown (ap place_after shown ∙ stays_at rest)
      ∙ ap (λ (l : List Shown). rest_as at rest ∷ l) (gives-rest c k)

-- one after another
gives_more : (a b : ℕ) (shelf : List ℕ) (at : ℕ) → gives (a + b) shelf at
    ≡ gives a shelf at ++ gives b shelf (goes a shelf at)
unfolding gives goes
gives_more zero b shelf at = rw zero-add
gives_more (suc a) b shelf at =
    rw (suc-add a b) (ap (λ (l : List Shown). (turn_at shelf at).shown ∷ l) (gives_more a b shelf (turn_at shelf at).at))

-- whatever the cut, the reader gives its records and then its rest
pub reader_cuts : (shelf : List ℕ) (ss : List (List ℕ)) (rest : List ℕ) → Cut shelf ss rest → (k : ℕ) →
    gives (length ss + k) shelf 0 ≡ shown_as 0 ss ++ repeated k (rest_as (length (laid ss [])) rest)
reader_cuts shelf ss rest (e, r, c) k =
    let g = given_records shelf ss rest 0 e r in
    let place : 0 + length (laid ss []) ≡ length (laid ss []) = zero-add (length (laid ss [])) in
    gives_more (length ss) k shelf 0
    ∙ ap₂ (λ (l : List Shown) (p : ℕ). l ++ gives k shelf p) g.shows (g.ends ∙ place)
    ∙ ap (λ (l : List Shown). shown_as 0 ss ++ l)
    (gives-rest shelf rest (length (laid ss [])) (ap (λ (p : ℕ). drop p shelf) (sym place) ∙ g.leaves)
    (omega (arith, ap length e, ap length (laid-front ss rest), length-append (laid ss []) rest)) c k)

-- and every shelf has a cut
abbrev Has_cut : List ℕ → Type 0
Has_cut shelf = (ss : List (List ℕ)) × (rest : List ℕ) × Cut shelf ss rest

cut_within : (most : ℕ) (shelf : List ℕ) → length shelf ≤ most → Has_cut shelf
unfolding laid
cut_within zero [] h = ([], [], (refl, tt, inl refl))
cut_within zero (b ∷ bs) h = absurd (omega arith)
cut_within (suc most) shelf h =
    go (eqb (look_code shelf) DONE) refl
    (cut_within most (drop (size_in shelf) shelf) (rw length-drop (omega (arith, size_least shelf))))
  where
    go : (b : Bool) → eqb (look_code shelf) DONE ≡ b → Has_cut (drop (size_in shelf) shelf) → Has_cut shelf
    go false e others = ([], shelf, (refl, tt, inr (eqb-false (look_code shelf) DONE e)))
    go true e (ss, rest, (stands, records, c)) =
        let size = size_in shelf in (
          take size shelf ∷ ss,
          rest,
          (
            sym (take-append-drop size shelf) ∙ ap (λ (l : List ℕ). take size shelf ++ l) stands,
            (whole-alone shelf (eqb-true (look_code shelf) DONE e), records),
            c,
          ),
        )

pub has_cut : (shelf : List ℕ) → (ss : List (List ℕ)) × (rest : List ℕ) × Cut shelf ss rest
has_cut shelf = cut_within (length shelf) shelf (omega arith)

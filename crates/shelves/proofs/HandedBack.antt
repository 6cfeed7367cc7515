-- The stretch that is handed back reads well, is of that kind and index, and is the first such of its shelf; where it
-- is the house's, one's own has none. And ABSENT says that neither has one.
use Prim.Native.Nat.{ℕ, ◌+◌, ◌-◌}
use mathlib.Core.Path.{◌≡◌, refl, sym, ap, ap₂, ◌∙◌, subst}
use mathlib.Core.Bool.{Bool, true, false, cond, not}
use mathlib.Core.List.{List, [], ◌++◌}
use mathlib.Core.Logic.{◌⊎◌, inl, inr}
use native.Mathlib.Omega.{arith}
use lib.ListN.{length, take, drop}
use lib.Seq.{drop_at, take_at}
use Rattle.definitions.specs.Codes.{DONE, KIND, INDEX, ABSENT}
use Rattle.definitions.specs.Requests.{known_kind, good_index}
use denote.Ref.{Bor}
use Rattle.browsing.specs.Browse.{part_of, lies}
use Rattle.browsing.specs.Cut.{laid, Cut}
use Rattle.browsing.proofs.Cuts.{laid-front, has_cut}
use Rattle.shelves.specs.declared.Walked.{Walked}
use Rattle.shelves.specs.declared.Walked.TheVariants.{Match, Stopped, Ended}
use Rattle.shelves.specs.Walk.{walked}
use Rattle.shelves.specs.Lookup.{OWN, HOUSE, refused, found_by, found, held_by, held_at}
use Rattle.shelves.specs.declared.Found.{Found}
use Rattle.shelves.specs.First.{First, None, first_of}
use Rattle.shelves.proofs.Firsts.{walk_cut, FirstFrom, first_from}

module _ (kind n : ℕ) where
  -- a walk's match
  walk_first : (shelf : List ℕ) → FirstFrom kind n shelf 0 (walked kind n shelf)
  walk_first shelf = go (has_cut shelf).0 (has_cut shelf).1 (has_cut shelf).2
    where
      go : (ss : List (List ℕ)) (rest : List ℕ) → Cut shelf ss rest → FirstFrom kind n shelf 0 (walked kind n shelf)
      go ss rest c =
          subst (λ (w : Walked). FirstFrom kind n shelf 0 w) (sym (walk_cut kind n shelf ss rest c))
          (subst (λ (l : List ℕ). FirstFrom kind n l 0 (first_of kind n 0 ss rest)) (sym c.0)
          (first_from kind n ss rest 0 c.1 c.2))

  -- is where it was found
  stretch_is : (shelf : List ℕ) (start : ℕ) (s : List ℕ) → First kind n shelf start s
      → take (length s) (drop start shelf) ≡ s
  stretch_is shelf start s f =
      let front = laid f.before [] in
      let there : drop start shelf ≡ s ++ f.after =
      ap₂ (λ (k : ℕ) (l : List ℕ). drop k l) f.at (f.stands ∙ laid-front f.before (s ++ f.after))
      ∙ drop_at front (s ++ f.after) (length front) refl in
      ap (take (length s)) there ∙ take_at s f.after (length s) refl

  -- the shelves that are lent; what is found is a matter of their bytes
  module _ (lent-own lent-house : Bor (List ℕ)) where
    abbrev own : List ℕ
    own = lent-own.now

    abbrev house : List ℕ
    house = lent-house.now

    -- that very stretch is the first of its shelf: what stands in it, and where it lies
    abbrev pub Very : Bor (List ℕ) → Found → Type 0
    Very shelf f = First kind n shelf.now f.start (held_by f lent-own lent-house)
        × (held_at f lent-own lent-house ≡ lies shelf f.start)

    -- of which shelf it is
    abbrev pub Handed : Found → Type 0
    Handed f = ((f.from ≡ OWN) × Very lent-own f) ⊎ ((f.from ≡ HOUSE) × None kind n own × Very lent-house f)

    -- what holds of each answer holds of the one that is given
    abbrev decided : Found
    decided = found_by OWN (walked kind n own) (found_by HOUSE (walked kind n house) (refused ABSENT 0 0))

    found_cases : (P : Found → Type 0) → P (refused KIND 0 0) → P (refused INDEX 0 0) → P decided
        → P (found kind n own house)
    unfolding found
    found_cases P kinds indices others = go (known_kind kind) (good_index n)
      where
        go : (k g : Bool) → P (cond (not k) (refused KIND 0 0) (cond (not g) (refused INDEX 0 0) decided))
        go false g = kinds
        go true false = indices
        go true true = others

    abbrev Good : Found → Type 0
    Good f = f.code ≡ DONE → Handed f

    not_good : (code byte shelf : ℕ) → (code ≡ DONE → ⊥) → Good (refused code byte shelf)
    unfolding refused
    not_good code byte shelf z e = absurd (z e)

    -- a match at some place, as it is answered
    placed : (shelf : List ℕ) (start end place : ℕ) (s : List ℕ) → First kind n shelf place s → start ≡ 0 + place
        → end ≡ start + length s → First kind n shelf start (take (end - start) (drop start shelf))
    placed shelf start end place s f es ee =
        let same : place ≡ start = omega (arith, es) in
        let long : end - start ≡ length s = omega (arith, ee) in
        let here : First kind n shelf start s = subst (λ (k : ℕ). First kind n shelf k s) same f in
        subst (λ (l : List ℕ). First kind n shelf start l)
        (sym (ap (λ (k : ℕ). take k (drop start shelf)) long ∙ stretch_is shelf start s here)) here

    by_house : None kind n own → (w : Walked) → FirstFrom kind n house 0 w
        → Good (found_by HOUSE w (refused ABSENT 0 0))
    unfolding found_by held_by held_at part_of
    by_house e (Match start end) (s, place, f, es, ee) d =
        inr (refl, e, (placed house start end place s f es ee, refl))
    by_house e (Stopped code start) f d = not_good code start HOUSE f d
    by_house e Ended f d = not_good ABSENT 0 0 (λ z. omega arith) d

    by_own : (w : Walked) → FirstFrom kind n own 0 w → (others : Found) → (None kind n own → Good others)
        → Good (found_by OWN w others)
    unfolding found_by held_by held_at part_of
    by_own (Match start end) (s, place, f, es, ee) others g d =
        inl (refl, (placed own start end place s f es ee, refl))
    by_own (Stopped code start) f others g d = not_good code start OWN f d
    by_own Ended f others g d = g f d

    pub handed_back : (found kind n own house).code ≡ DONE → Handed (found kind n own house)
    handed_back =
        found_cases Good (not_good KIND 0 0 (λ z. omega arith)) (not_good INDEX 0 0 (λ z. omega arith))
        (by_own (walked kind n own) (walk_first own) _
        (λ none. by_house none (walked kind n house) (walk_first house)))

    -- neither shelf has one
    abbrev Absent : Found → Type 0
    Absent f = f ≡ refused ABSENT 0 0 → None kind n own × None kind n house

    none_in : (w v : Walked) → FirstFrom kind n own 0 w → FirstFrom kind n house 0 v
        → Absent (found_by OWN w (found_by HOUSE v (refused ABSENT 0 0)))
    unfolding found_by refused
    none_in (Match start end) v f g e = absurd (omega (arith, ap (λ x. x.code) e))
    none_in (Stopped code start) v f g e = absurd (omega (arith, ap (λ x. x.shelf) e))
    none_in Ended (Match start end) f g e = absurd (omega (arith, ap (λ x. x.code) e))
    none_in Ended (Stopped code start) f g e = absurd (omega (arith, ap (λ x. x.shelf) e))
    none_in Ended Ended f g e = (f, g)

    pub absent : found kind n own house ≡ refused ABSENT 0 0 → None kind n own × None kind n house
    unfolding refused
    absent =
        found_cases Absent (λ e. absurd (omega (arith, ap (λ x. x.code) e)))
        (λ e. absurd (omega (arith, ap (λ x. x.code) e)))
        (none_in (walked kind n own) (walked kind n house) (walk_first own) (walk_first house))

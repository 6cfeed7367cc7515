-- The search, underway: what is left of it from a place on is what is left of it from the start.
use Prim.Native.Nat.{ℕ, zero, suc, ◌+◌, ◌-◌, ◌≤◌, ◌<◌}
use mathlib.Core.Path.{◌≡◌, refl, sym, ap, ◌∙◌}
use mathlib.Core.Bool.{Bool, true, false, cond}
use mathlib.Core.List.{List, [], ◌∷◌}
use mathlib.Core.Logic.{◌⊎◌, inl, inr}
use native.Mathlib.Omega.{arith}
use native.Mathlib.Numerals.{add-one}
use lib.ListN.{length, get_or, take, drop, drop_of_length-le}
use lib.Seq.{drop-cons, get_or-drop, get_or-take, length-take-le}
use Rattle.step_laws.specs.Tests.{by_order}
use Rattle.std.specs.Prelude.{Result, Ok, Err, MatchResult}
use Rattle.keeping.specs.declared.Cramped.{Cramped}
use Rattle.keeping.specs.Keepable.{keepable, cramped, to_next, cramped_to}
use Rattle.keeping.specs.Trying.{too_little, tried_of, sought_of, Unmarked}
use Rattle.keeping.proofs.Trying.{tried_unmarked, said}

-- a byte on, or here
module _ (b : ℕ) (bs : List ℕ) where
  pub next_here : keepable (b ∷ bs) ≡ true → to_next (b ∷ bs) ≡ 0
  unfolding to_next
  next_here e = rw e refl

  pub next_on : keepable (b ∷ bs) ≡ false → to_next (b ∷ bs) ≡ suc (to_next bs)
  unfolding to_next
  next_on e = rw e refl

  module _ (room : ℕ) where
    pub cramped_here : cramped room (b ∷ bs) ≡ true → cramped_to room (b ∷ bs) ≡ true
    unfolding cramped_to
    cramped_here e = rw e refl

    pub cramped-kept : cramped room (b ∷ bs) ≡ false → keepable (b ∷ bs) ≡ true → cramped_to room (b ∷ bs) ≡ false
    unfolding cramped_to
    cramped-kept e k = rw (e, k) refl

    pub cramped_on : cramped room (b ∷ bs) ≡ false → keepable (b ∷ bs) ≡ false → cramped_to room (b ∷ bs)
        ≡ cramped_to room bs
    unfolding cramped_to
    cramped_on e k = rw (e, k) refl

-- it ends within the shelf, and at a record that is kept or at the end
pub next_le : (bs : List ℕ) → to_next bs ≤ length bs
unfolding to_next
next_le [] = omega arith
next_le (b ∷ bs) = go (keepable (b ∷ bs)) refl (next_le bs)
  where
    go : (t : Bool) → keepable (b ∷ bs) ≡ t → to_next bs ≤ length bs → to_next (b ∷ bs) ≤ length (b ∷ bs)
    go true e h = omega (arith, next_here b bs e)
    go false e h = omega (arith, next_on b bs e)

pub next-found : (bs : List ℕ) → (drop (to_next bs) bs ≡ []) ⊎ (keepable (drop (to_next bs) bs) ≡ true)
unfolding to_next
next-found [] = inl refl
next-found (b ∷ bs) = go (keepable (b ∷ bs)) refl (next-found bs)
  where
    go : (t : Bool) → keepable (b ∷ bs) ≡ t → (drop (to_next bs) bs ≡ []) ⊎ (keepable (drop (to_next bs) bs) ≡ true)
        → (drop (to_next (b ∷ bs)) (b ∷ bs) ≡ []) ⊎ (keepable (drop (to_next (b ∷ bs)) (b ∷ bs)) ≡ true)
    go true e h = rw (next_here b bs e) (inr e)
    go false e h = rw (next_on b bs e) h

pub record Underway (room : ℕ) (shelf : List ℕ) (from at : ℕ) : Type 0 where
  pub inside : at ≤ length shelf
  pub next : at + to_next (drop at shelf) ≡ from + to_next (drop from shelf)
  pub cramps : cramped_to room (drop at shelf) ≡ cramped_to room (drop from shelf)

pub begun : (room : ℕ) (shelf : List ℕ) (from : ℕ) → from ≤ length shelf → Underway room shelf from from
begun room shelf from l = record { inside = l; next = refl; cramps = refl }

-- what it comes to, by its two definitions
sought_cramped : (room from : ℕ) (left : List ℕ) → cramped_to room left ≡ true → Err too_little ≡ sought_of room from left
unfolding sought_of
sought_cramped room from left e = rw e refl

sought_found : (room from place : ℕ) (left : List ℕ) → cramped_to room left ≡ false → place ≡ from + to_next left
    → Ok place ≡ sought_of room from left
unfolding sought_of
sought_found room from place left e is = rw (e, is) refl

-- backwards
pub sought : (room from : ℕ) (left : List ℕ) (r : Result ℕ Cramped) → r ≡ sought_of room from left
    → MatchResult r (λ place. (cramped_to room left ≡ false) × (place ≡ from + to_next left))
    (λ _. cramped_to room left ≡ true)
unfolding sought_of
sought room from left r e = rw e (go (cramped_to room left) refl)
  where
    go : (t : Bool) → cramped_to room left ≡ t
        → MatchResult (cond t (Err too_little) (Ok (from + to_next left)))
        (λ place. (cramped_to room left ≡ false) × (place ≡ from + to_next left)) (λ _. cramped_to room left ≡ true)
    go true c = c
    go false c = (c, refl)

module _ (room : ℕ) (shelf : List ℕ) (from at : ℕ) (so : Underway room shelf from at) where
  -- at the shelf's end
  pub at_end : length shelf ≤ at → Ok at ≡ sought_of room from (drop from shelf)
  unfolding to_next cramped_to
  at_end past =
      let none = drop_of_length-le shelf past in
      sought_found room from at (drop from shelf) (sym so.cramps ∙ ap (cramped_to room) none)
      (omega (arith, so.next, ap to_next none))

  module _ (l : at < length shelf) where
    here : drop at shelf ≡ get_or shelf at 0 ∷ drop (at + 1) shelf
    here = rw add-one (drop-cons shelf at 0 l)

    pub at_kept : Ok true ≡ tried_of room (drop at shelf) → Ok at ≡ sought_of room from (drop from shelf)
    at_kept e =
        let p = said room (drop at shelf) (Ok true) e in
        let keeps = sym (ap keepable here) ∙ p.1 in
        sought_found room from at (drop from shelf)
        (sym so.cramps ∙ ap (cramped_to room) here ∙ cramped-kept _ _ room (sym (ap (cramped room) here) ∙ p.0) keeps)
        (omega (arith, so.next, ap to_next here ∙ next_here _ _ keeps))

    pub at_cramped : (e : Cramped) → Err e ≡ tried_of room (drop at shelf) → Err e ≡ sought_of room from (drop from shelf)
    at_cramped c e =
        sought_cramped room from (drop from shelf)
        (sym so.cramps ∙ ap (cramped_to room) here
        ∙ cramped_here _ _ room (sym (ap (cramped room) here) ∙ said room (drop at shelf) (Err c) e))

    -- and where it goes on
    pub goes_on : Ok false ≡ tried_of room (drop at shelf) → Underway room shelf from (at + 1)
    goes_on e =
        let p = said room (drop at shelf) (Ok false) e in
        let passes = sym (ap keepable here) ∙ p.1 in
        record {
          inside = omega arith;
          next = omega (arith, so.next, ap to_next here ∙ next_on _ _ passes);
          cramps = sym (cramped_on _ _ room (sym (ap (cramped room) here) ∙ p.0) passes)
              ∙ sym (ap (cramped_to room) here) ∙ so.cramps;
        }

-- it passes bytes with which no mark starts
pub passes : (room : ℕ) (shelf : List ℕ) (from at k : ℕ) → Underway room shelf from at → at + k ≤ length shelf
    → Unmarked shelf at (at + k) → Underway room shelf from (at + k)
passes room shelf from at zero so l none = let e : at + 0 ≡ at = omega arith in rw e so
passes room shelf from at (suc k) so l none =
    let e : at + suc k ≡ at + k + 1 = omega arith in
    let so_far = passes room shelf from at k so (omega arith) (λ i h u. none i h (omega arith)) in
    let here : get_or (drop (at + k) shelf) 0 0 ≡ get_or shelf (at + k) 0 =
    get_or-drop (at + k) shelf 0 0 ∙ ap (λ (i : ℕ). get_or shelf i 0) (omega arith) in
    rw e (goes_on room shelf from (at + k) so_far (omega arith)
    (tried_unmarked room (drop (at + k) shelf) (λ m. none (at + k) (omega arith) (omega arith) (sym here ∙ m))))

pub passes_to : (room : ℕ) (shelf : List ℕ) (from at to : ℕ) → Underway room shelf from at → at ≤ to → to ≤ length shelf
    → Unmarked shelf at to → Underway room shelf from to
passes_to room shelf from at to so h l none =
    let e : at + (to - at) ≡ to = omega arith in
    rw e at (passes room shelf from at (to - at) so (omega arith) (rw e none))

-- the bytes with which no mark starts: none, and one more
pub unmarked_none : (shelf : List ℕ) (at : ℕ) → Unmarked shelf at at
unmarked_none shelf at i h u e = omega (arith, h, u)

pub unmarked_more : (shelf : List ℕ) (from at to : ℕ) → Unmarked shelf from at → Unmarked shelf at to
    → Unmarked shelf from to
unmarked_more shelf from at to low high i h u = by_order i at (λ l. low i h l) (λ l. high i l u)

pub unmarked_one : (shelf : List ℕ) (at to : ℕ) → to ≡ at + 1 → (get_or shelf at 0 ≡ 0xC9 → ⊥) → Unmarked shelf at to
unmarked_one shelf at to e none i h u m =
    let same : i ≡ at = omega (arith, e, h, u) in
    none (ap (λ (k : ℕ). get_or shelf k 0) (sym same) ∙ m)

-- in a part of a shelf, from a place on
pub unmarked_behind : (shelf : List ℕ) (at k : ℕ) → Unmarked (drop at shelf) 0 k → Unmarked shelf at (at + k)
unmarked_behind shelf at k none i h u m =
    let e : at + (i - at) ≡ i = omega arith in
    none (i - at) (omega arith) (omega arith)
    (get_or-drop at shelf (i - at) 0 ∙ ap (λ (j : ℕ). get_or shelf j 0) e ∙ m)

pub unmarked_front : (bytes : List ℕ) (n : ℕ) → n ≤ length bytes → Unmarked (take n bytes) 0 (length (take n bytes))
    → Unmarked bytes 0 n
unmarked_front bytes n l none i h u m =
    none i h (omega (arith, length-take-le n bytes l)) (get_or-take n bytes i 0 u ∙ m)

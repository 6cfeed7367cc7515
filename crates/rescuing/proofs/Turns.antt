-- A pass over a shelf, search after search: what was counted and what the rest of the shelf counts are that of the
-- whole shelf (`Counted`); and what was written, with what is to be written of the rest, is what is written of the
-- whole (`Wrote`).
use Prim.Native.Nat.{ℕ, zero, suc, ◌+◌, ◌*◌, ◌-◌, ◌≤◌, ◌<◌}
use mathlib.Core.Path.{◌≡◌, refl, sym, ap, ◌∙◌}
use mathlib.Core.Bool.{Bool, true, false, true≢false, ◌||◌}
use mathlib.Core.List.{List, [], ◌∷◌, ◌++◌, append-nil, append_assoc}
use mathlib.Core.Logic.{⊎_elim}
use native.Mathlib.Omega.{arith}
use native.Mathlib.Nat.{zero-add}
use borrow.Author.Tests.{eq-eqb, ne_eqb}
use lib.ListN.{length, take, drop, length-append, length-drop, drop_of_length-le}
use borrow.Rule.Slice.PartMut.{put_mid}
use lib.Seq.{sets, sets-eq, length-sets, drop-drop}
use Rattle.record.proofs.Passes.{sets-append}
use Rattle.shelf.proofs.Alone.{tail}
use Rattle.step_laws.specs.Tests.{neither}
use Rattle.keeping.specs.Keepable.{to_next, cramped_to}
use Rattle.std.specs.Prelude.{Result, Ok, Err, IsOk}
use Rattle.std.specs.declared.ops.Range.{Range}
use Rattle.keeping.specs.declared.Cramped.{Cramped}
use Rattle.rescuing.specs.Rescue.{size_at, found_by, left_by, searches, kept_by, stretch, listed_by, cramped_by}
use Rattle.rescuing.specs.Rescue.{kept, listed}
use Rattle.rescuing.specs.Passes.{FoundIs, NextIs}
use Rattle.rescuing.proofs.Searches.{there, length_skipped, length_found, left_is, length-left}
use Rattle.rescuing.proofs.Searches.{found-or-end, searches-none, searches-step, by_searches}

-- a stretch has two numbers, an empty one none
pub stretch_empty : (at k : ℕ) → k ≡ 0 → stretch at k ≡ []
unfolding stretch
stretch_empty at k e = rw (eq-eqb k 0 e) refl

pub stretch_some : (at k : ℕ) → 0 < k → stretch at k ≡ at ∷ k ∷ []
unfolding stretch
stretch_some at k some = rw (ne_eqb k 0 (λ e. omega arith)) refl

stretch-long : (at k : ℕ) → (length (stretch at k) ≤ 2) × (k ≡ 0 → length (stretch at k) ≡ 0)
stretch-long at zero = rw (stretch_empty at 0 refl) (omega arith, λ _. refl)
stretch-long at (suc k) = rw (stretch_some at (suc k) (omega arith)) (omega arith, λ e. absurd (omega arith))

-- of all searches in some bytes
abbrev pub kept_in : List ℕ → List ℕ
kept_in left = kept_by (searches left)

abbrev pub listed_in : ℕ → List ℕ → List ℕ
listed_in at left = listed_by at (searches left)

abbrev pub cramped_in : ℕ → List ℕ → Bool
cramped_in room left = cramped_by room (searches left)

-- the first, and then those in what it leaves
module _ (left : List ℕ) (some : 0 < length left) where
  pub kept_step : kept_in left ≡ found_by left ++ kept_in (left_by left)
  unfolding kept_by
  kept_step = rw (searches-step left some) refl

  pub listed-step : (at : ℕ) → listed_in at left
      ≡ stretch at (to_next left) ++ listed_in (at + to_next left + size_at (there left)) (left_by left)
  unfolding listed_by
  listed-step at = rw (searches-step left some, length_skipped left, length_found left) refl

  pub cramped-step : (room : ℕ) → cramped_in room left ≡ (cramped_to room left || cramped_in room (left_by left))
  unfolding cramped_by
  cramped-step room = rw (searches-step left some) refl

pub kept-none : kept_in [] ≡ []
unfolding kept_by
kept-none = rw searches-none refl

pub listed-none : (at : ℕ) → listed_in at [] ≡ []
unfolding listed_by
listed-none at = rw searches-none refl

pub cramped-none : (room : ℕ) → cramped_in room [] ≡ false
unfolding cramped_by
cramped-none room = rw searches-none refl

-- no more bytes are kept than there are, and a stretch and the record after it have 11 bytes at least
pub kept-le : (left : List ℕ) → length (kept_in left) ≤ length left
kept-le =
    by_searches (λ left. length (kept_in left) ≤ length left) (rw kept-none (omega arith))
    (λ left some h. rw (kept_step left some, length-append) (omega (arith, length_found left, length-left left, h)))

pub listed_le : (left : List ℕ) (at : ℕ) → 11 * length (listed_in at left) ≤ 2 * length left + 20
listed_le =
    by_searches (λ left. (at : ℕ) → 11 * length (listed_in at left) ≤ 2 * length left + 20)
    (λ at. rw (listed-none at) (omega arith))
    (λ left some h at. rw (listed-step left some at, length-append)
    (⊎_elim
    (λ (e : left_by left ≡ []). rw (e, listed-none) (omega (arith, (stretch-long at (to_next left)).0)))
    (λ found. by_skip left at (to_next left) refl found _ (h (at + to_next left + size_at (there left))))
    (found-or-end left)))
  where
    by_skip : (left : List ℕ) (at k : ℕ) → k ≡ to_next left → 10 ≤ size_at (there left)
        → (n : ℕ) → 11 * n ≤ 2 * length (left_by left) + 20
        → 11 * (length (stretch at k) + n) ≤ 2 * length left + 20
    by_skip left at zero e found n h = omega (arith, length-left left, (stretch-long at 0).1 refl)
    by_skip left at (suc k) e found n h = omega (arith, length-left left, (stretch-long at (suc k)).0)

-- a search that ended for no want of room found something
pub found_ok : (room : ℕ) (shelf : List ℕ) (at : ℕ) → cramped_to room (drop at shelf) ≡ false
    → (r : Result (Range ℕ) Cramped) → NextIs room shelf at r → IsOk r
found_ok room shelf at free (Ok found) is = refl
found_ok room shelf at free (Err e) is = absurd (true≢false (sym is ∙ free))

pub found_in : (room : ℕ) (shelf : List ℕ) (at : ℕ) → {r : Result (Range ℕ) Cramped} {found : Range ℕ} → r ≡ Ok found
    → NextIs room shelf at r → FoundIs room shelf at found
found_in room shelf at e is = rw e at is

-- a place of a shelf, and the search from there
module _ (room : ℕ) (shelf : List ℕ) (at : ℕ) (l : at < length shelf) where
  some : 0 < length (drop at shelf)
  some = rw length-drop (omega arith)

  pub not-cramped : cramped_in room (drop at shelf) ≡ false → cramped_to room (drop at shelf) ≡ false
  not-cramped none = (neither (cramped_to room (drop at shelf)) _ (sym (cramped-step (drop at shelf) some room) ∙ none)).0

  module _ (r : Range ℕ) (is : FoundIs room shelf at r) where
    -- where the record stands
    stands : drop r.start shelf ≡ there (drop at shelf)
    stands = rw (is.start) (sym (drop-drop (to_next (drop at shelf)) at shelf))

    pub starts : r.start ≡ at + to_next (drop at shelf)
    starts = is.start

    pub ends : r.end ≡ r.start + size_at (there (drop at shelf))
    ends = is.end ∙ ap (λ (x : List ℕ). r.start + size_at x) stands

    pub after : drop r.end shelf ≡ left_by (drop at shelf)
    after =
        let e : r.end ≡ at + (to_next (drop at shelf) + size_at (there (drop at shelf))) = omega (arith, starts, ends) in
        rw e (sym (left_is (drop at shelf) ∙ drop-drop (to_next (drop at shelf) + size_at (there (drop at shelf))) at
        shelf))

    pub bounds : (at ≤ r.start) × (r.start ≤ r.end) × (r.end ≤ length shelf) × (at < r.end)
    bounds =
        let long = length-left (drop at shelf) in
        let all = length-drop at shelf in (
          omega (arith, starts),
          omega (arith, ends),
          omega (arith, starts, ends, long, all),
          ⊎_elim (λ e. omega (arith, starts, ends, long, all, ap length e)) (λ k. omega (arith, starts, ends))
              (found-or-end (drop at shelf)),
        )

    pub record_is : take (r.end - r.start) (drop r.start shelf) ≡ found_by (drop at shelf)
    unfolding found_by
    record_is =
        let e : r.end - r.start ≡ size_at (there (drop at shelf)) = omega (arith, ends) in
        rw (e, stands) refl

    pub size_is : length (take (r.end - r.start) (drop r.start shelf)) ≡ r.end - r.start
    size_is = ap length record_is ∙ length_found (drop at shelf) ∙ omega (arith, ends)

    pub skip_is : r.start - at ≡ to_next (drop at shelf)
    skip_is = omega (arith, starts)

    pub kept-turn : kept_in (drop at shelf) ≡ take (r.end - r.start) (drop r.start shelf) ++ kept_in
        (drop r.end shelf)
    kept-turn = rw (record_is, after) (kept_step (drop at shelf) some)

    pub listed-turn : listed_in at (drop at shelf) ≡ stretch at (r.start - at) ++ listed_in r.end
        (drop r.end shelf)
    listed-turn =
        let e : r.end ≡ at + to_next (drop at shelf) + size_at (there (drop at shelf)) = omega (arith, starts, ends) in
        rw (skip_is, after, e) (listed-step (drop at shelf) some at)

    pub cramped-turn : cramped_in room (drop at shelf) ≡ cramped_in room (drop r.end shelf)
    cramped-turn =
        cramped-step (drop at shelf) some room
        ∙ rw (after, is.free) refl

-- what was counted, at a place
pub record Counted (room : ℕ) (shelf : List ℕ) (at k s : ℕ) : Type 0 where
  pub inside : at ≤ length shelf
  pub keeps : k + length (kept_in (drop at shelf)) ≡ length (kept shelf)
  pub lists : s + length (listed_in at (drop at shelf)) ≡ length (listed shelf)
  pub cramps : cramped_in room (drop at shelf) ≡ cramped_in room shelf

pub counted_none : (room : ℕ) (shelf : List ℕ) → Counted room shelf 0 0 0
unfolding kept listed
counted_none room shelf = record { inside = omega arith; keeps = zero-add _; lists = zero-add _; cramps = refl }

module _ (room : ℕ) (shelf : List ℕ) (at k s : ℕ) (so : Counted room shelf at k s) where
  -- some record has too little room
  pub counted-cramped : at < length shelf → cramped_to room (drop at shelf) ≡ true → cramped_in room shelf ≡ true
  counted-cramped l e =
      let some : 0 < length (drop at shelf) = rw length-drop (omega arith) in
      sym so.cramps ∙ cramped-step (drop at shelf) some room ∙ rw e refl

  module _ (l : at < length shelf) (r : Range ℕ) (is : FoundIs room shelf at r) where
    pub counted-turn : Counted room shelf r.end (k + (r.end - r.start)) (s + length (stretch at (r.start - at)))
    counted-turn =
        let b = bounds room shelf at l r is in
        record {
          inside = b.2;
          keeps = omega (
            arith,
            so.keeps,
            ap length (kept-turn room shelf at l r is),
            length-append (take (r.end - r.start) (drop r.start shelf)) (kept_in (drop r.end shelf)),
            ap length (record_is room shelf at l r is),
            length_found (drop at shelf),
            ends room shelf at l r is,
          );
          lists = omega (
            arith,
            so.lists,
            ap length (listed-turn room shelf at l r is),
            length-append (stretch at (r.start - at)) (listed_in r.end (drop r.end shelf)),
          );
          cramps = sym (cramped-turn room shelf at l r is) ∙ so.cramps;
        }

  -- at the end of the shelf
  module _ (past : length shelf ≤ at) where
    pub counted-all : (k ≡ length (kept shelf)) × (s ≡ length (listed shelf)) × (cramped_in room shelf ≡ false)
    counted-all =
        let e = drop_of_length-le shelf past in (
          omega (arith, so.keeps, ap length (ap kept_in e ∙ kept-none)),
          omega (arith, so.lists, ap length (ap (listed_in at) e ∙ listed-none at)),
          sym so.cramps ∙ ap (cramped_in room) e ∙ cramped-none room,
        )

  -- no sum passes what a shelf has
  pub counts_small : (k ≤ length shelf) × (11 * s ≤ 2 * length shelf + 20)
  unfolding kept listed
  counts_small = (omega (arith, so.keeps, kept-le shelf), omega (arith, so.lists, listed_le shelf 0))

-- a part of a list, replaced by as much
pub part-stored : (l vs : List ℕ) (at : ℕ) → at + length vs ≤ length l → (n : ℕ) → n ≡ length vs → (ys : List ℕ) → ys ≡ vs
    → put_mid at n l ys ≡ sets l at vs
part-stored l vs at fits n en ys e =
    rw (en, e, drop-drop) (sym (append_assoc (take at l) vs (drop (at + length vs) l)) ∙ sym (sets-eq vs l at fits))

-- some more, behind what was stored
store_on : (l l' : List ℕ) (i n : ℕ) (xs ys all : List ℕ) → all ≡ xs ++ ys → l' ≡ sets l i xs → n ≡ i + length xs
    → sets l' n ys ≡ sets l i all
store_on l l' i n xs ys all e es en = rw (es, en, e) (sym (sets-append l i xs ys))

-- what was written, at a place
pub record Wrote (shelf : List ℕ) (at k s : ℕ) (out₀ list₀ out list : List ℕ) : Type 0 where
  pub outs : sets out k (kept_in (drop at shelf)) ≡ sets out₀ 0 (kept shelf)
  pub numbers : sets list s (listed_in at (drop at shelf)) ≡ sets list₀ 0 (listed shelf)
  pub out_long : length out ≡ length out₀
  pub list_long : length list ≡ length list₀

pub wrote_none : (shelf out list : List ℕ) → Wrote shelf 0 0 0 out list out list
unfolding kept listed
wrote_none shelf out list = record { outs = refl; numbers = refl; out_long = refl; list_long = refl }

module _ (room : ℕ) (shelf : List ℕ) (at k s : ℕ) (out₀ list₀ out list : List ℕ)
    (so : Wrote shelf at k s out₀ list₀ out list) where
  module _ (l : at < length shelf) (r : Range ℕ) (is : FoundIs room shelf at r) where
    pub wrote_turn : (out' list' : List ℕ) → out' ≡ sets out k (take (r.end - r.start) (drop r.start shelf))
        → list' ≡ sets list s (stretch at (r.start - at))
        → Wrote shelf r.end (k + (r.end - r.start)) (s + length (stretch at (r.start - at))) out₀ list₀ out' list'
    wrote_turn out' list' eo el =
        let found = take (r.end - r.start) (drop r.start shelf) in
        let size : length found ≡ r.end - r.start = size_is room shelf at l r is in
        record {
          outs = store_on out out' k _ found _ _ (kept-turn room shelf at l r is) eo (omega (arith, size))
              ∙ so.outs;
          numbers = store_on list list' s _ (stretch at (r.start - at)) _ _
              (listed-turn room shelf at l r is) el refl
              ∙ so.numbers;
          out_long = ap length eo ∙ length-sets out k found ∙ so.out_long;
          list_long = ap length el ∙ length-sets list s (stretch at (r.start - at)) ∙ so.list_long;
        }

  pub wrote_all : length shelf ≤ at → (out ≡ sets out₀ 0 (kept shelf)) × (list ≡ sets list₀ 0 (listed shelf))
  wrote_all past =
      let e = drop_of_length-le shelf past in (
        sym (ap (sets out k) (ap kept_in e ∙ kept-none)) ∙ so.outs,
        sym (ap (sets list s) (ap (listed_in at) e ∙ listed-none at)) ∙ so.numbers,
      )

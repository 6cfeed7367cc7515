-- One search after the other. What a search skips, the record it finds and what is left are the bytes it was in
-- (`made_up`); it goes on by a byte at least (`goes_on`), so that there are no more searches than bytes, and of all of
-- them the first is that in the whole (`searches-step`).
use Prim.Native.Nat.{ℕ, zero, suc, ◌+◌, ◌≤◌, ◌<◌}
use mathlib.Core.Path.{◌≡◌, refl, sym, ap, ◌∙◌}
use mathlib.Core.Bool.{true}
use mathlib.Core.List.{List, [], ◌∷◌, ◌++◌}
use mathlib.Core.Logic.{◌⊎◌, inl, inr, ⊎_elim}
use native.Mathlib.Omega.{arith}
use lib.ListN.{length, take, drop, length-drop, take-append-drop}
use lib.Seq.{drop-drop, length-take-le}
use Rattle.definitions.specs.Codes.{DONE}
use Rattle.record.specs.Header.{header_code}
use Rattle.shelf.specs.Format.{whole_mark, size_in}
use Rattle.shelf.proofs.Alone.{header_looked, size_least, size_looked}
use Rattle.keeping.specs.Keepable.{keepable, to_next}
use Rattle.keeping.proofs.Trying.{keepable_reads}
use Rattle.keeping.proofs.Searching.{next_le, next-found}
use Rattle.rescuing.specs.Rescue.{skipped_by, size_at, found_by, left_by, searches_to, searches}

-- the size of what stands where a search ends: all of it is there
size_at_lem : (bs : List ℕ) → keepable bs ≡ true → (10 ≤ size_at bs) × (size_at bs ≡ size_in bs) × (size_at bs ≤ length bs)
size_at_lem [] k = absurd (omega (arith, size_least [], size_looked [] (keepable_reads [] k).0))
size_at_lem (b ∷ bs) k =
    (size_least (b ∷ bs), refl, size_looked (b ∷ bs) (keepable_reads (b ∷ bs) k).0)

module _ (left : List ℕ) where
  -- what stands where the search ends
  abbrev pub there : List ℕ
  there = drop (to_next left) left

  pub size_there : size_at there ≤ length there
  size_there = ⊎_elim (λ (e : there ≡ []). rw e (omega arith)) (λ k. (size_at_lem there k).2) (next-found left)

  length_there : to_next left + length there ≡ length left
  length_there = omega (arith, length-drop (to_next left) left, next_le left)

  pub length_skipped : length (skipped_by left) ≡ to_next left
  unfolding skipped_by
  length_skipped = length-take-le (to_next left) left (next_le left)

  pub length_found : length (found_by left) ≡ size_at there
  unfolding found_by
  length_found = length-take-le (size_at there) there size_there

  pub left_is : left_by left ≡ drop (to_next left + size_at there) left
  unfolding left_by
  left_is = drop-drop (size_at there) (to_next left) left

  pub length-left : to_next left + size_at there + length (left_by left) ≡ length left
  length-left = omega (
    arith,
    ap length left_is,
    length-drop (to_next left + size_at there) left,
    length_there,
    size_there,
  )

  -- nothing is left, or a record was found
  pub found-or-end : (left_by left ≡ []) ⊎ (10 ≤ size_at there)
  unfolding left_by
  found-or-end = ⊎_elim (λ (e : there ≡ []). inl (rw e refl)) (λ k. inr (size_at_lem there k).0) (next-found left)

  pub moves : 0 < length left → length (left_by left) < length left
  moves some = ⊎_elim (λ e. omega (arith, ap length e)) (λ k. omega (arith, length-left)) found-or-end

  pub made_up : skipped_by left ++ (found_by left ++ left_by left) ≡ left
  unfolding skipped_by found_by left_by
  made_up =
      ap (λ (x : List ℕ). take (to_next left) left ++ x) (take-append-drop (size_at there) there)
      ∙ take-append-drop (to_next left) left

-- enough searches are all of them
enough : (m n : ℕ) (left : List ℕ) → length left ≤ m → length left ≤ n → searches_to m left ≡ searches_to n left
unfolding searches_to
enough zero zero left h k = refl
enough zero (suc n) [] h k = refl
enough zero (suc n) (b ∷ bs) h k = absurd (omega arith)
enough (suc m) zero [] h k = refl
enough (suc m) zero (b ∷ bs) h k = absurd (omega arith)
enough (suc m) (suc n) [] h k = refl
enough (suc m) (suc n) (b ∷ bs) h k =
    let less = moves (b ∷ bs) (omega arith) in
    ap (λ ss. (b ∷ bs) ∷ ss) (enough m n (left_by (b ∷ bs)) (omega arith) (omega arith))

pub searches-none : searches [] ≡ []
unfolding searches searches_to
searches-none = refl

pub searches-step : (left : List ℕ) → 0 < length left → searches left ≡ left ∷ searches (left_by left)
unfolding searches searches_to
searches-step [] some = absurd (omega arith)
searches-step (b ∷ bs) some =
    let less = moves (b ∷ bs) some in
    ap (λ ss. (b ∷ bs) ∷ ss)
    (enough (length bs) (length (left_by (b ∷ bs))) (left_by (b ∷ bs)) (omega arith) (omega arith))

-- what holds of no bytes, and of bytes where it holds of those that a search leaves, holds of all
pub by_searches : (P : List ℕ → Type 0) → P [] → ((left : List ℕ) → 0 < length left → P (left_by left) → P left)
    → (shelf : List ℕ) → P shelf
by_searches P none more shelf = go (length shelf) shelf (omega arith)
  where
    go : (m : ℕ) (left : List ℕ) → length left ≤ m → P left
    go zero [] h = none
    go zero (b ∷ bs) h = absurd (omega arith)
    go (suc m) [] h = none
    go (suc m) (b ∷ bs) h =
        let less = moves (b ∷ bs) (omega arith) in
        more (b ∷ bs) (omega arith) (go m (left_by (b ∷ bs)) (omega arith))

-- where a search ends is the shelf's end, or a record that is kept
pub ends_at : (shelf : List ℕ) (at start : ℕ) → start ≡ at + to_next (drop at shelf)
    → (drop start shelf ≡ []) ⊎ (keepable (drop start shelf) ≡ true)
ends_at shelf at start e =
    let here : drop start shelf ≡ there (drop at shelf) = rw e (sym (drop-drop (to_next (drop at shelf)) at shelf)) in
    rw here (next-found (drop at shelf))

pub ends_within : (shelf : List ℕ) (at start : ℕ) → at ≤ length shelf → start ≡ at + to_next (drop at shelf)
    → start ≤ length shelf
ends_within shelf at start l e = omega (arith, e, next_le (drop at shelf), length-drop at shelf)

-- and its size is within what stands there
pub size_within : (bs : List ℕ) → (bs ≡ []) ⊎ (keepable bs ≡ true) → size_at bs ≤ length bs
size_within bs = ⊎_elim (λ (e : bs ≡ []). rw e (omega arith)) (λ k. (size_at_lem bs k).2)

-- a record that is kept has a right header, as the function that reads its size asks
pub right_header : (bs : List ℕ) → (bs ≡ [] → ⊥) → (bs ≡ []) ⊎ (keepable bs ≡ true) → header_code whole_mark bs ≡ DONE
right_header bs some =
    ⊎_elim (λ (e : bs ≡ []). absurd (some e)) (λ k. header_looked bs (keepable_reads bs k).0)

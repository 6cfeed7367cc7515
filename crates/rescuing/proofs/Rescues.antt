-- The theorems on a rescue. Kept and skipped bytes together make up the shelf, in order (`made_up_all`): without the
-- stretches that are listed it is what is kept (`without-listed`). What is kept are good records (`kept_good`), each to
-- the byte what the writer makes of its polynomial (`good_written`). A shelf of good records is kept whole, with no
-- stretch (`good_kept`), and so is what was kept (`kept_again`). That SHORT is never given in large rooms: NeverShort.
use Prim.Native.Nat.{ℕ, zero, suc, ◌+◌, ◌-◌, ◌≤◌, ◌<◌}
use mathlib.Core.Path.{◌≡◌, refl, sym, ap, ap₂, ◌∙◌}
use mathlib.Core.Bool.{true}
use mathlib.Core.List.{List, [], ◌∷◌, ◌++◌, append_assoc}
use mathlib.Core.Logic.{◌⊎◌, inl, inr, ⊎_elim}
use native.Mathlib.Omega.{arith}
use lib.ListN.{length, take, drop, length-append, take-append-drop}
use lib.Seq.{take_at, drop_at, take-length, take-nil, take-append-add, drop-append-add}
use Rattle.definitions.specs.Codes.{DONE}
use Rattle.definitions.specs.Answer.{coefficients}
use Rattle.record.specs.Header.{kind_in, index_in, count_in}
use Rattle.record.proofs.Fronts.{kind-front, index-front}
use Rattle.widths.proofs.Digits.{Bytes, bytes_drop}
use Rattle.forms.specs.declared.Form.TheVariants as Form
use Rattle.forms.specs.Format.{record_of, stored_in, coefficients_in}
use Rattle.forms.proofs.Done.{looked}
use Rattle.forms.proofs.ReadWrite.{record_same}
use Rattle.shelf.specs.Format.{size_in, look_code}
use Rattle.shelf.proofs.Alone.{size_least, size-front, stored-front, look_front, whole-alone}
use Rattle.browsing.specs.Cut.{laid}
use Rattle.keeping.specs.Keepable.{keepable, to_next}
use Rattle.keeping.proofs.Comparing.{own_same, same_own}
use Rattle.keeping.proofs.Trying.{keepable_reads, reads_keepable}
use Rattle.keeping.proofs.Searching.{next_here, next-found}
use Rattle.rescuing.specs.Rescue.{skipped_by, size_at, found_by, left_by, searches, stretch, kept, listed}
use Rattle.rescuing.specs.Pieces.{Good, AllGood, pieced, without}
use Rattle.rescuing.proofs.Searches.{there, length_found, left_is, made_up, searches-none, searches-step}
use Rattle.rescuing.proofs.Searches.{by_searches}
use Rattle.rescuing.proofs.Turns.{kept_in, listed_in, kept-none, listed-none, kept_step, listed-step}
use Rattle.rescuing.proofs.Turns.{stretch_empty, stretch_some}

-- ---- in order
pub made_up_all : (shelf : List ℕ) → pieced (searches shelf) ≡ shelf
unfolding pieced
made_up_all =
    by_searches (λ left. pieced (searches left) ≡ left) (rw searches-none refl)
    (λ left some h. ap pieced (searches-step left some)
    ∙ ap (λ (x : List ℕ). skipped_by left ++ (found_by left ++ x)) h ∙ made_up left)

-- the first of a list starts at a place or after it
abbrev From : ℕ → List ℕ → Type 0
From at [] = Unit
From at (start ∷ more) = at ≤ start

from_later : (at late : ℕ) (l : List ℕ) → at ≤ late → From late l → From at l
from_later at late [] h f = tt
from_later at late (start ∷ more) h f = omega (arith, f)

listed_from : (left : List ℕ) (at : ℕ) → From at (listed_in at left)
listed_from =
    by_searches (λ left. (at : ℕ) → From at (listed_in at left)) (λ at. rw (listed-none at) tt)
    (λ left some h at. rw (listed-step left some at) (go left at (to_next left) _
    (h (at + to_next left + size_at (there left)))))
  where
    go : (left : List ℕ) (at k : ℕ) (l : List ℕ) → From (at + k + size_at (there left)) l → From at (stretch at k ++ l)
    go left at zero l f = rw (stretch_empty at 0 refl) (from_later at _ l (omega arith) f)
    go left at (suc k) l f = rw (stretch_some at (suc k) (omega arith)) (omega arith)

-- what stands before the first stretch stays
without-front : (at : ℕ) (f rest l : List ℕ) → From (at + length f) l
    → without at l (f ++ rest) ≡ f ++ without (at + length f) l rest
unfolding without
without-front at f rest [] h = refl
without-front at f rest (start ∷ []) h = refl
without-front at f rest (start ∷ k ∷ more) h =
    let e : start - at ≡ length f + (start - (at + length f)) = omega (arith, h) in
    rw (e, take-append-add f rest (start - (at + length f)), drop-append-add f rest (start - (at + length f)))
    (append_assoc f (take (start - (at + length f)) rest)
    (without (start + k) more (drop k (drop (start - (at + length f)) rest))))

-- without what a search skipped
without-stretch : (at k : ℕ) (l bytes : List ℕ) → From (at + k) l
    → without at (stretch at k ++ l) bytes ≡ without (at + k) l (drop k bytes)
unfolding without
without-stretch at zero l bytes f = rw (stretch_empty at 0 refl) (ap (λ n. without n l bytes) (omega arith))
without-stretch at (suc k) l bytes f =
    let none : at - at ≡ 0 = omega arith in
    rw (stretch_some at (suc k) (omega arith), none) refl

without-none : (at : ℕ) → without at [] [] ≡ []
unfolding without
without-none at = refl

found_left : (left : List ℕ) → drop (to_next left) left ≡ found_by left ++ left_by left
unfolding found_by left_by
found_left left = sym (take-append-drop (size_at (there left)) (there left))

without_in : (left : List ℕ) (at : ℕ) → without at (listed_in at left) left ≡ kept_in left
without_in =
    by_searches (λ left. (at : ℕ) → without at (listed_in at left) left ≡ kept_in left)
    (λ at. rw (listed-none at, kept-none) (without-none at))
    (λ left some h at.
    let k = to_next left in
    let next = at + k + size_at (there left) in
    let l = listed_in next (left_by left) in
    let long : at + k + length (found_by left) ≡ next = ap (λ (n : ℕ). at + k + n) (length_found left) in
    let from : From (at + k + length (found_by left)) l = rw long (listed_from (left_by left) next) in
    ap (λ (x : List ℕ). without at x left) (listed-step left some at)
    ∙ without-stretch at k l left (from_later (at + k) _ l (omega arith) from)
    ∙ ap (without (at + k) l) (found_left left)
    ∙ without-front (at + k) (found_by left) (left_by left) l from
    ∙ ap (λ (x : List ℕ). found_by left ++ x) (ap (λ (n : ℕ). without n l (left_by left)) long ∙ h next)
    ∙ sym (kept_step left some))

pub without-listed : (shelf : List ℕ) → without 0 (listed shelf) shelf ≡ kept shelf
unfolding kept listed
without-listed shelf = without_in shelf 0

-- ---- good records
-- a record in front of others is what it is by itself
module _ (s rest : List ℕ) (g : Good s) where
  long : 10 ≤ length s
  long = omega (arith, g.0.1, size_least s)

  whole : size_in s ≤ length s
  whole = omega (arith, g.0.1)

  front-keepable : keepable (s ++ rest) ≡ true
  unfolding coefficients_in
  front-keepable =
      reads_keepable (s ++ rest) (look_front s rest long whole ∙ g.0.0)
      (same_own (s ++ rest)
      (stored-front s rest long whole ∙ g.1
      ∙ sym (ap₂ coefficients (kind-front s rest long) (index-front s rest long))))

  first_of : (bs : List ℕ) → bs ≡ s ++ rest → (to_next bs ≡ 0) × (size_at bs ≡ length s)
  first_of [] e = absurd (omega (arith, ap length e, length-append s rest, long))
  first_of (b ∷ bs) e = (
    next_here b bs (ap keepable e ∙ front-keepable),
    ap size_in e ∙ size-front s rest long ∙ g.0.1,
  )

  front-next : to_next (s ++ rest) ≡ 0
  front-next = (first_of (s ++ rest) refl).0

  front-size : size_at (there (s ++ rest)) ≡ length s
  front-size = rw front-next (first_of (s ++ rest) refl).1

  front_some : 0 < length (s ++ rest)
  front_some = omega (arith, length-append s rest, long)

  front-found : found_by (s ++ rest) ≡ s
  unfolding found_by
  front-found = rw (front-size, front-next) (take_at s rest (length s) refl)

  front-left : left_by (s ++ rest) ≡ rest
  unfolding left_by
  front-left = rw (front-size, front-next) (drop_at s rest (length s) refl)

  front_kept : kept_in (s ++ rest) ≡ s ++ kept_in rest
  front_kept = kept_step (s ++ rest) front_some ∙ ap₂ (λ (x y : List ℕ). x ++ kept_in y) front-found front-left

  front-listed : (at : ℕ) → listed_in at (s ++ rest) ≡ listed_in (at + length s) rest
  front-listed at =
      let e : at + 0 + length s ≡ at + length s = omega arith in
      listed-step (s ++ rest) front_some at
      ∙ rw (front-size, front-next, stretch_empty at 0 refl, front-left, e) refl

kept-laid : (ss : List (List ℕ)) → AllGood ss → kept_in (laid ss []) ≡ laid ss []
unfolding laid
kept-laid [] good = kept-none
kept-laid (s ∷ ss) (g, good) = front_kept s (laid ss []) g ∙ ap (λ (x : List ℕ). s ++ x) (kept-laid ss good)

listed-laid : (ss : List (List ℕ)) → AllGood ss → (at : ℕ) → listed_in at (laid ss []) ≡ []
unfolding laid
listed-laid [] good at = listed-none at
listed-laid (s ∷ ss) (g, good) at = front-listed s (laid ss []) g at ∙ listed-laid ss good (at + length s)

-- a shelf without damage is kept whole, with no stretch
pub good_kept : (ss : List (List ℕ)) → AllGood ss → (kept (laid ss []) ≡ laid ss []) × (listed (laid ss []) ≡ [])
unfolding kept listed
good_kept ss good = (kept-laid ss good, listed-laid ss good 0)

-- ---- what is kept
-- a record that is found, taken out
module _ (bs : List ℕ) (bytes : Bytes bs) (k : keepable bs ≡ true) where
  reads : look_code bs ≡ DONE
  reads = (keepable_reads bs k).0

  found_good : Good (take (size_in bs) bs)
  unfolding coefficients_in
  found_good =
      let w = whole-alone bs reads in
      let s = take (size_in bs) bs in
      let long : 10 ≤ length s = omega (arith, w.1, size_least s) in
      let rest = drop (size_in bs) bs in
      let joined : s ++ rest ≡ bs = take-append-drop (size_in bs) bs in
      let own = own_same bs bytes reads (keepable_reads bs k).1 in (
        w,
        sym (stored-front s rest long (omega (arith, w.1))) ∙ ap (stored_in Form.Whole) joined ∙ own
            ∙ ap₂ coefficients (ap kind_in (sym joined) ∙ kind-front s rest long)
            (ap index_in (sym joined) ∙ index-front s rest long),
      )

found_cases : (left : List ℕ) → Bytes left → (found_by left ≡ []) ⊎ Good (found_by left)
unfolding found_by
found_cases left bytes = go (there left) (bytes_drop (to_next left) left bytes) (next-found left)
  where
    go : (bs : List ℕ) → Bytes bs → (bs ≡ []) ⊎ (keepable bs ≡ true)
        → (take (size_at bs) bs ≡ []) ⊎ Good (take (size_at bs) bs)
    go [] by c = inl refl
    go (b ∷ bs) by (inl e) = inl (rw e (take-nil (size_in [])))
    go (b ∷ bs) by (inr k) = inr (found_good (b ∷ bs) by k)

-- it reads well, record by record
pub kept_good : (shelf : List ℕ) → Bytes shelf → (ss : List (List ℕ)) × (kept shelf ≡ laid ss []) × AllGood ss
unfolding kept laid
kept_good =
    by_searches (λ left. Bytes left → (ss : List (List ℕ)) × (kept_in left ≡ laid ss []) × AllGood ss)
    (λ _. ([], kept-none, tt))
    (λ left some h bytes.
    let (ss, e, good) = h (rw (left_is left) (bytes_drop (to_next left + size_at (there left)) left bytes)) in
    ⊎_elim
    (λ (none : found_by left ≡ []). (ss, kept_step left some ∙ rw none e, good))
    (λ (g : Good (found_by left)).
    (found_by left ∷ ss, kept_step left some ∙ ap (λ (x : List ℕ). found_by left ++ x) e, (g, good)))
    (found_cases left bytes))

-- each is to the byte what the writer makes of the polynomial of its kind and index
pub good_written : (s : List ℕ) → Bytes s → Good s
    → record_of Form.Whole (kind_in s) (index_in s) (coefficients (kind_in s) (index_in s)) ≡ s
good_written s bytes g =
    ap (record_of Form.Whole (kind_in s) (index_in s)) (sym g.1)
    ∙ record_same Form.Whole s (count_in s) bytes (looked Form.Whole s g.0.0)
    ∙ rw g.0.1 (take-length s)

-- rescuing what was kept keeps all of it
pub kept_again : (shelf : List ℕ) → Bytes shelf → (kept (kept shelf) ≡ kept shelf) × (listed (kept shelf) ≡ [])
kept_again shelf bytes =
    let (ss, e, good) = kept_good shelf bytes in
    rw e (good_kept ss good)

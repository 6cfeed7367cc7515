-- Rooms so large that SHORT is never given: as many bytes as the shelf has, a number more than it has bytes, and 65,536
-- coefficients (`never_short`). A list of two numbers for each 11 bytes, rounded up, does too (`roomy_done`).
use Prim.Native.Nat.{ℕ, zero, suc, ◌+◌, ◌*◌, ◌/◌, ◌≤◌, ◌<◌}
use mathlib.Core.Path.{◌≡◌, refl, ap, ◌∙◌}
use mathlib.Core.Bool.{Bool, true, false, not, ◌&&◌}
use mathlib.Core.List.{List, [], ◌∷◌}
use native.Mathlib.Omega.{arith}
use borrow.Author.Tests.{eqb-true, le-ltb}
use lib.ListN.{length, length-append}
use lib.Dec.{eqb, ltb}
use Rattle.definitions.specs.Codes.{DONE}
use Rattle.record.specs.Header.{count_in}
use Rattle.widths.proofs.Digits.{Bytes, bytes_drop}
use Rattle.forms.proofs.Reading.{count_small}
use Rattle.shelf.specs.Format.{whole_mark, look_code}
use Rattle.shelf.proofs.Alone.{header_looked}
use Rattle.keeping.specs.Keepable.{keepable, cramped, cramped_to, to_next}
use Rattle.rescuing.specs.Rescue.{size_at, stretch, kept, listed, rescue_code}
use Rattle.rescuing.proofs.Searches.{there, left_is, by_searches}
use Rattle.rescuing.proofs.Turns.{listed_in, cramped_in, listed-none, listed-step, cramped-none, cramped-step}
use Rattle.rescuing.proofs.Turns.{stretch_empty, stretch_some, kept-le, listed_le}
use Rattle.rescuing.proofs.Codes.{code_is}

-- no polynomial has more coefficients
module _ (room : ℕ) (enough : 65536 ≤ room) where
  one_free : (bs : List ℕ) → Bytes bs → cramped room bs ≡ false
  unfolding cramped
  one_free bs bytes = go (eqb (look_code bs) DONE) refl
    where
      go : (t : Bool) → eqb (look_code bs) DONE ≡ t → (t && ltb room (count_in bs)) ≡ false
      go true e =
          let small = count_small whole_mark bs (header_looked bs (eqb-true (look_code bs) DONE e)) bytes in
          le-ltb room (count_in bs) (omega arith)
      go false e = refl

  search_free : (bs : List ℕ) → Bytes bs → cramped_to room bs ≡ false
  unfolding cramped_to
  search_free [] bytes = refl
  search_free (b ∷ bs) bytes = rw (one_free (b ∷ bs) bytes, search_free bs bytes.1) (go (keepable (b ∷ bs)))
    where
      go : (t : Bool) → (not t && false) ≡ false
      go true = refl
      go false = refl

  all-free : (left : List ℕ) → Bytes left → cramped_in room left ≡ false
  all-free =
      by_searches (λ left. Bytes left → cramped_in room left ≡ false) (λ _. cramped-none room)
      (λ left some h bytes. cramped-step left some room
      ∙ rw (search_free left bytes, h (rw (left_is left) (bytes_drop (to_next left + size_at (there left)) left bytes)))
      refl)

-- two numbers a stretch
abbrev Even : ℕ → Type 0
Even n = (k : ℕ) × (n ≡ 2 * k)

stretch_even : (at k : ℕ) → Even (length (stretch at k))
stretch_even at zero = (0, ap length (stretch_empty at 0 refl))
stretch_even at (suc k) = (1, ap length (stretch_some at (suc k) (omega arith)))

listed_even : (left : List ℕ) (at : ℕ) → Even (length (listed_in at left))
listed_even =
    by_searches (λ left. (at : ℕ) → Even (length (listed_in at left))) (λ at. (0, ap length (listed-none at)))
    (λ left some h at.
    let (j, ej) = stretch_even at (to_next left) in
    let (k, ek) = h (at + to_next left + size_at (there left)) in
    (j + k, ap length (listed-step left some at) ∙ length-append (stretch at (to_next left)) _ ∙ omega (arith, ej, ek)))

-- so no number of a list is left over
pub listed_pairs : (shelf : List ℕ) → 2 * (length (listed shelf) / 2) ≡ length (listed shelf)
unfolding listed
listed_pairs shelf = let (k, e) = listed_even shelf 0 in omega arith

module _ (shelf : List ℕ) (bytes : Bytes shelf) (room slots entries : ℕ) (all : length shelf ≤ room)
    (most : 65536 ≤ entries) where
  done : length (listed shelf) ≤ slots → rescue_code shelf room slots entries ≡ DONE
  unfolding kept listed
  done fits =
      code_is shelf room slots entries
      ∙ rw (
        all-free entries most shelf bytes,
        le-ltb room (length (kept shelf)) (omega (arith, kept-le shelf)),
        le-ltb slots (length (listed shelf)) fits,
      ) refl

  pub never_short : length shelf + 1 ≤ slots → rescue_code shelf room slots entries ≡ DONE
  unfolding listed
  never_short many = done (let (k, e) = listed_even shelf 0 in omega (arith, listed_le shelf 0))

  pub roomy_done : length shelf / 11 < slots / 2 → rescue_code shelf room slots entries ≡ DONE
  unfolding listed
  roomy_done many = done (let (k, e) = listed_even shelf 0 in omega (arith, listed_le shelf 0))

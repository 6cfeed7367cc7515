-- What is shown of a shelf, from the tests that led there.
use Prim.Native.Nat.{ℕ, ◌+◌, ◌≤◌, ◌<◌}
use mathlib.Core.Path.{◌≡◌, refl, sym, subst}
use mathlib.Core.Bool.{Bool, true, false, cond, true≢false}
use mathlib.Core.List.{List}
use native.Mathlib.Omega.{arith}
use lib.ListN.{length, drop, length-drop}
use lib.Dec.{leb, eqb}
use borrow.Author.Tests.{le-leb, lt-leb, leb-true, leb-false, ne_eqb, eqb-true, eqb-false}
use Rattle.definitions.specs.Codes.{DONE}
use Rattle.record.specs.Header.{kind_in, index_in, degree_in}
use Rattle.shelf.specs.Format.{size_in, look_code}
use Rattle.shelf.proofs.Alone.{size_least, size_looked}
use Rattle.browsing.specs.declared.Shown.{Shown}
use Rattle.browsing.specs.declared.Shown.TheVariants.{Record, Refused, End}
use Rattle.browsing.specs.Browse.{shown_of, shown_at, place_after}

pub shown_record : (at : ℕ) (bytes : List ℕ) → look_code bytes ≡ DONE → (s k n d : ℕ) → s ≡ size_in bytes
    → k ≡ kind_in bytes → n ≡ index_in bytes → d ≡ degree_in bytes → shown_of at bytes ≡ Record at (at + s) k n d
unfolding shown_of
shown_record at bytes e s k n d es ek en ed = rw (e, es, ek, en, ed)

module _ (shelf : List ℕ) (at : ℕ) where
  pub shown_end : length shelf ≤ at → shown_at shelf at ≡ End (length shelf)
  unfolding shown_at
  shown_end h = rw (le-leb (length shelf) at h)

  pub shown_in : at < length shelf → shown_at shelf at ≡ shown_of at (drop at shelf)
  unfolding shown_at
  shown_in h = rw (lt-leb (length shelf) at h)

  pub shown_refused : at < length shelf → (code : ℕ) → code ≡ look_code (drop at shelf) → (code ≡ DONE → ⊥)
      → shown_at shelf at ≡ Refused code at
  unfolding shown_at shown_of
  shown_refused h code e z = rw (lt-leb (length shelf) at h, ← e, ne_eqb code DONE z)

-- and back: what holds in each case holds of what is shown
shown_cases : (P : Shown → Type 0) (shelf : List ℕ) (at : ℕ) → (length shelf ≤ at → P (End (length shelf)))
    → (let bytes = drop at shelf in at < length shelf → (look_code bytes ≡ DONE → ⊥) → P (Refused (look_code bytes) at))
    → (let bytes = drop at shelf in at < length shelf → look_code bytes ≡ DONE
    → P (Record at (at + size_in bytes) (kind_in bytes) (index_in bytes) (degree_in bytes))) → P (shown_at shelf at)
unfolding shown_at shown_of
shown_cases P shelf at end refused good =
    go (leb (length shelf) at) refl (eqb (look_code (drop at shelf)) DONE) refl
  where
    go : (b : Bool) → leb (length shelf) at ≡ b → (d : Bool) → eqb (look_code (drop at shelf)) DONE ≡ d →
        P (cond b (End (length shelf)) (cond d
        (Record at (at + size_in (drop at shelf)) (kind_in (drop at shelf)) (index_in (drop at shelf))
        (degree_in (drop at shelf)))
        (Refused (look_code (drop at shelf)) at)))
    go true eb d ed = end (leb-true (length shelf) at eb)
    go false eb true ed = good (leb-false (length shelf) at eb) (eqb-true (look_code (drop at shelf)) DONE ed)
    go false eb false ed = refused (leb-false (length shelf) at eb) (eqb-false (look_code (drop at shelf)) DONE ed)

-- a record's bytes lie within the shelf, and there are some
abbrev pub is_record : Shown → Bool
is_record (Record start end kind n degree) = true
is_record (Refused code start) = false
is_record (End start) = false

pub record_bounds : (shelf : List ℕ) (at : ℕ) (s : Shown) → shown_at shelf at ≡ s → is_record s ≡ true
    → (at < place_after s) × (place_after s ≤ length shelf)
unfolding place_after
record_bounds shelf at s e =
    subst (λ x. is_record x ≡ true → (at < place_after x) × (place_after x ≤ length shelf)) e
    (shown_cases (λ x. is_record x ≡ true → (at < place_after x) × (place_after x ≤ length shelf)) shelf at
    (λ l f. absurd (true≢false (sym f))) (λ l z f. absurd (true≢false (sym f))) (λ l good f.
    let bytes = drop at shelf in
    (omega (arith, size_least bytes), omega (arith, size_looked bytes good, length-drop at shelf))))

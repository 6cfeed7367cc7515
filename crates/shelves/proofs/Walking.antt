-- The walk, turn by turn: what is left of it, from the place reached on, is how the whole comes out.
use Prim.Native.Nat.{ℕ, zero, suc, ◌-◌, ◌<◌, ◌≤◌}
use mathlib.Core.Path.{◌≡◌, refl, sym, ◌∙◌}
use mathlib.Core.Bool.{true, false, ◌&&◌}
use mathlib.Core.List.{List}
use native.Mathlib.Omega.{arith}
use lib.ListN.{length}
use lib.Dec.{eqb}
use Rattle.browsing.specs.declared.Shown.{Shown}
use Rattle.browsing.specs.declared.Shown.TheVariants.{Record, Refused, End}
use Rattle.browsing.specs.Browse.{shown_at, place_after}
use Rattle.browsing.proofs.Showing.{shown_end, record_bounds}
use Rattle.shelves.specs.declared.Walked.TheVariants.{Match, Stopped, Ended}
use Rattle.shelves.specs.Walk.{earlier, asked, onward, walk_from, walked}

module _ (kind n : ℕ) (shelf : List ℕ) where
  -- past the end there is nothing
  pub walk_end : (most at : ℕ) → length shelf ≤ at → walk_from most kind n shelf at ≡ Ended
  unfolding walk_from onward
  walk_end zero at h = refl
  walk_end (suc most) at h = rw (shown_end shelf at h)

  abbrev pub Underway : ℕ → Type 0
  Underway at = (most : ℕ) × (length shelf - at ≤ most) × (walk_from most kind n shelf at ≡ walked kind n shelf)

  pub begun : Underway 0
  unfolding walked
  begun = (length shelf, omega arith, refl)

  pub ended : (at : ℕ) → length shelf ≤ at → Underway at → Ended ≡ walked kind n shelf
  ended at h (most, room, e) = sym (walk_end most at h) ∙ e

  -- one turn, by what is shown
  abbrev Turned : ℕ → Shown → Type 0
  Turned at s = (most : ℕ) × (length shelf - at ≤ suc most)
      × (onward kind n (walk_from most kind n shelf) s ≡ walked kind n shelf)

  turned : (at : ℕ) (s : Shown) → at < length shelf → s ≡ shown_at shelf at → Underway at → Turned at s
  unfolding walk_from
  turned at s h e (zero, room, w) = absurd (omega arith)
  turned at s h e (suc most, room, w) = (most, room, rw e w)

  module _ (at : ℕ) (h : at < length shelf) (u : Underway at) where
    pub stopped : (code start : ℕ) → Refused code start ≡ shown_at shelf at → Stopped code start ≡ walked kind n shelf
    unfolding onward
    stopped code start e = (turned at (Refused code start) h e u).2

    pub nothing : (start : ℕ) → End start ≡ shown_at shelf at → Ended ≡ walked kind n shelf
    unfolding onward
    nothing start e = (turned at (End start) h e u).2

    module _ (start end k m d : ℕ) (e : Record start end k m d ≡ shown_at shelf at) where
      pub matched : (eqb k kind && eqb m n) ≡ true → Match start end ≡ walked kind n shelf
      unfolding onward asked earlier
      matched a = rw a at (turned at (Record start end k m d) h e u).2

      pub bounds : (at < end) × (end ≤ length shelf)
      unfolding place_after
      bounds = record_bounds shelf at (Record start end k m d) (sym e) refl

      pub passed : (eqb k kind && eqb m n) ≡ false → Underway end
      unfolding onward asked earlier
      passed a =
          let t = turned at (Record start end k m d) h e u in
          (t.0, omega (arith, t.1, bounds.0), rw a at t.2)

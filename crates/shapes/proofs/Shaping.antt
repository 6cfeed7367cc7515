-- The shaping passes, turn by turn: what stands below the place where a pass has come is new, the rest is old
-- (`Split`), and what a turn stores is the new entry there.
use Prim.Native.Nat.{ℕ, ◌+◌, ◌-◌, ◌/◌, ◌%◌, ◌<◌, ◌≤◌}
use mathlib.Core.Path.{◌≡◌, refl, sym, ◌∙◌, ap}
use mathlib.Core.Bool.{Bool, cond}
use mathlib.Core.List.{List}
use native.Mathlib.Omega.{arith}
use native.Mathlib.Nat as NatL
use borrow.Author.Tests.{lt-ltb, le-ltb}
use lib.ListN.{length, get_or, set}
use lib.IntN.{ℤ}
use Rattle.definitions.specs.Integers.{⊖, 0ℤ}
use Rattle.definitions.specs.Series.{Series, alternate}
use Rattle.definitions.specs.Steps.{entries}
use Rattle.series.specs.Maps.{alternate_even, alternate_odd}
use Rattle.entry_steps.specs.Passes.{Split}
use Rattle.entry_steps.proofs.Split.{moved_up}
use Rattle.definitions.specs.Halves.{image, mirrored_up}
use Rattle.shapes.specs.Shapes.{negated_copy}

-- ---- a pass that has nothing to do below `from`, and one that may skip an entry
module _ {f : Series} (l : List ℤ) (from : ℕ) (same : (k : ℕ) → k < from → f k ≡ entries l k) where
  pub starts : Split l (length l) from f (entries l)
  unfolding entries
  starts = record { len = refl; below = λ k h m. sym (same k h); above = λ k h m. refl }

module _ {l : List ℤ} {n i : ℕ} {f g : Series} (s : Split l n i f g) where
  pub skips : f i ≡ g i → Split l n (i + 1) f g
  skips e =
      record {
        len = s.len;
        below = λ k h m. go k m (native.Mathlib.Decide.ℕ_discrete k i) h;
        above = λ k h m. s.above k (omega arith) m;
      }
    where
      go : (k : ℕ) → k < n → Dec (k ≡ i) → k < i + 1 → get_or l k 0ℤ ≡ f k
      go k m (yes q) h = s.above k (omega arith) m ∙ ap g q ∙ sym e ∙ ap f (sym q)
      go k m (no q) h = s.below k (omega arith) m

  -- an entry that is still old, and one that is new already
  pub old_entry : (k : ℕ) → i ≤ k → k < n → entries l k ≡ g k
  unfolding entries
  old_entry k h m = s.above k h m

  pub new_entry_lem : (k : ℕ) → k < i → k < n → entries l k ≡ f k
  unfolding entries
  new_entry_lem k h m = s.below k h m

-- ---- the definitions, entry by entry
module _ (negate : Bool) (n : ℕ) (f : Series) where
  pub mirrored_low : (i : ℕ) → i < (n + 1) / 2 → mirrored_up negate n f i ≡ f i
  unfolding mirrored_up
  mirrored_low i h = rw (lt-ltb i ((n + 1) / 2) h)

  pub mirrored_high : (i : ℕ) → (n + 1) / 2 ≤ i → mirrored_up negate n f i
      ≡ cond negate (⊖ (f (n - 1 - i))) (f (n - 1 - i))
  unfolding mirrored_up
  mirrored_high i h = rw (le-ltb i ((n + 1) / 2) h)

module _ (r : ℕ) (f : Series) where
  pub copied_low : (i : ℕ) → i < r → negated_copy r f i ≡ f i
  unfolding negated_copy
  copied_low i h = rw (lt-ltb i r h)

  pub copied_high : (i : ℕ) → r ≤ i → negated_copy r f i ≡ ⊖ (f (i - r))
  unfolding negated_copy
  copied_high i h = rw (le-ltb i r h)

-- ---- the turns
module _ (negate : Bool) (l : List ℤ) {m : List ℤ} {i : ℕ}
    (s : Split m (length l) i (mirrored_up negate (length l) (entries l)) (entries l)) (from : (length l + 1) / 2 ≤ i)
    (b : i < length l) where
  -- what is read is still old
  pub mirror_read : entries m (length l - 1 - i) ≡ entries l (length l - 1 - i)
  mirror_read =
      new_entry_lem s (length l - 1 - i) (omega arith) (omega arith)
      ∙ mirrored_low negate (length l) (entries l) (length l - 1 - i) (omega arith)

  pub mirror_turn : (v : ℤ) → v ≡ image negate (entries m (length l - 1 - i))
      → Split (set m i v) (length l) (i + 1) (mirrored_up negate (length l) (entries l)) (entries l)
  mirror_turn v e =
      moved_up s i (i + 1) b refl refl v
      (e ∙ ap (image negate) mirror_read ∙ sym (mirrored_high negate (length l) (entries l) i from))

module _ (r : ℕ) {n i : ℕ} {l : List ℤ} (e : Series) (s : Split l n i (negated_copy r e) e) (h : r ≤ i) (b : i < n)
    (twice : n ≤ r + r) where
  pub copy_read : entries l (i - r) ≡ e (i - r)
  copy_read = new_entry_lem s (i - r) (omega arith) (omega arith) ∙ copied_low r e (i - r) (omega arith)

  pub copy_turn : {m : List ℤ} → m ≡ set l i (⊖ (entries l (i - r))) → Split m n (i + 1) (negated_copy r e) e
  copy_turn q = rw q (moved_up s i (i + 1) b refl refl _ (ap ⊖ copy_read ∙ sym (copied_high r e i h)))

module _ {n i : ℕ} {l : List ℤ} (e : Series) (s : Split l n i (alternate e) e) (o : i % 2 ≡ 1) (b : i < n) where
  pub alternate_read : entries l i ≡ e i
  alternate_read = old_entry s i (NatL.le_refl i) b

  pub alternate-turn : {m : List ℤ} → m ≡ set l i (⊖ (entries l i)) → Split m n (i + 2) (alternate e) e
  alternate-turn q =
      rw (two i)
      (skips (rw q (moved_up s i (i + 1) b refl refl _ (ap ⊖ alternate_read ∙ sym (alternate_odd i e o))))
      (alternate_even (i + 1) e (omega arith)))
    where
      two : (j : ℕ) → j + 2 ≡ j + 1 + 1
      two j = omega arith

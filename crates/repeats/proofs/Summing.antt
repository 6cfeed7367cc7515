-- An accumulate of size d of what comes again at t. It is summed up row by row: where the entries below `from` are the
-- accumulate's, so are those of the row, since the old entries among the first d are as they were (`next_row_lem`).
use Prim.Native.Nat.{ℕ, ◌+◌, ◌*◌, ◌-◌, ◌/◌, ◌%◌, ◌<◌, ◌≤◌}
use mathlib.Core.Path.{◌≡◌, sym, ◌∙◌, ap, ap₂, subst}
use mathlib.Core.Bool.{false}
use mathlib.Core.List.{List, ◌++◌}
use native.Mathlib.Omega.{arith}
use native.Mathlib.Nat as NatL
use lib.ListN.{length, get_or, take, drop, length-append, length-drop, get_or-append}
use lib.IntN.{ℤ}
use mir.Syntax.{w64}
use mir.Val.{SFits}
use Rattle.definitions.specs.Integers.{◌⊕◌, 0ℤ}
use Rattle.definitions.specs.Series.{Series, firsts}
use Rattle.definitions.specs.Steps.{accumulate, accumulated, stepped, entries, largest, step_over, step_list}
use Rattle.step_laws.specs.Tests.{by_order}
use Rattle.step_laws.specs.Machine.{range_fits}
use Rattle.step_laws.specs.Accumulated.{accumulated_from, accumulated_below, by_chain}
use Rattle.step_laws.specs.Firsts.{length-firsts, firsts_here, firsts_same, is_firsts}
use Rattle.step_laws.specs.Step.{not-over_each}
use Rattle.repeats.specs.Repeats.{Again, SummedTo, repeated}
use Rattle.repeats.proofs.Repeats.{comes_again, again_times, part_ends, repeated-part}

-- the accumulate of the first n values hangs on them alone
accumulated-firsts : (d n : ℕ) (f : Series) → 1 ≤ d → (k : ℕ) → k < n
    → accumulated d (entries (firsts n f)) k ≡ accumulated d f k
accumulated-firsts d n f one =
    by_chain (λ k. k < n → accumulated d (entries (firsts n f)) k ≡ accumulated d f k) d one
    (λ k l h. accumulated_below d (entries (firsts n f)) k l ∙ firsts_here n f k h ∙ sym (accumulated_below d f k l))
    (λ k l rest h. accumulated_from d (entries (firsts n f)) k one l
    ∙ ap₂ ◌⊕◌ (firsts_here n f k h) (rest (omega arith)) ∙ sym (accumulated_from d f k one l))

-- the rows begin a multiple of t before d
pub first-row : {f : Series} (t d : ℕ) → Again t f → Again (d - d % t) f
first-row {f} t d a = subst (λ x. Again x f) whole (again_times t (d / t) a)
  where
    whole : d / t * t ≡ d - d % t
    whole = omega (arith, NatL.div-add-mod' d t)

-- a row: where the entries of a below `from` are the accumulate's of f, so are those summed up from them
module _ (d n : ℕ) (f : Series) (a : List ℤ) (x from : ℕ) (some : 1 ≤ d) (again : Again x f) (far : x ≤ from)
    (later : d ≤ from)
    (so_far : (k : ℕ) → k < from → k < n → entries a k ≡ accumulated d f k) where
  -- what is x before a place of the row is among the first d entries
  pub row_sum_lem : (k : ℕ) → from ≤ k → k < from + x → k < x + d → k < from + d → k < n
      → entries a (k - x) ⊕ entries a (k - d) ≡ accumulated d f k
  row_sum_lem k h i j m below =
      ap₂ ◌⊕◌
      (so_far (k - x) (omega arith) (omega arith) ∙ accumulated_below d f (k - x) (omega arith)
      ∙ sym (again k (omega arith)))
      (so_far (k - d) (omega arith) (omega arith))
      ∙ sym (accumulated_from d f k some (omega arith))

  pub next_row_lem : {to : ℕ} {m : List ℤ} → SummedTo x d from to a m → to ≤ from + x → to ≤ x + d → to ≤ from + d
      → (k : ℕ) → k < to → k < n → entries m k ≡ accumulated d f k
  next_row_lem t h i j k l below =
      by_order k from (λ low. t.below k low ∙ so_far k low below)
      (λ up. t.sums k up l ∙ row_sum_lem k up (omega arith) (omega arith) (omega arith) below)

module _ (t d : ℕ) (l : List ℤ) (one : 1 ≤ t) (near : t ≤ d) (room : d ≤ length l) where
  abbrev pub old : Series
  old = accumulated t (entries (take t l))

  some : 1 ≤ d
  some = omega arith

  pub old_again : Again t old
  old_again = comes_again t one (entries (take t l)) (part_ends t l)

  -- once the first d are written
  module _ {part : List ℤ} (e : part ≡ repeated t (take d l)) where
    part_length : length part ≡ d
    part_length = ap length (e ∙ repeated-part t d l near room) ∙ length-firsts d old

    pub written-length : length (part ++ drop d l) ≡ length l
    written-length = length-append part (drop d l) ∙ omega (arith, part_length, length-drop d l)

    pub written : (k : ℕ) → k < d → entries (part ++ drop d l) k ≡ old k
    unfolding entries
    written k h =
        get_or-append part (drop d l) 0ℤ k (omega (arith, part_length))
        ∙ ap (λ y. get_or y k 0ℤ) (e ∙ repeated-part t d l near room) ∙ firsts_here d old k h

  -- the step on all of it
  stepped_is : (k : ℕ) → k < length l → stepped accumulate d (entries (repeated t l)) k ≡ accumulated d old k
  unfolding stepped repeated
  stepped_is = accumulated-firsts d (length l) old some

  repeated-length : length (repeated t l) ≡ length l
  unfolding repeated
  repeated-length = length-firsts (length l) old

  pub fits : step_over largest accumulate d (repeated t l) ≡ false → (k : ℕ) → d ≤ k → k < length l
      → SFits w64 (accumulated d old k)
  fits e k from below =
      range_fits (accumulated d old k)
      (rw (stepped_is k below) at
      (not-over_each accumulate d (repeated t l) largest e k from (rw repeated-length below)))

  pub all_summed : (m : List ℤ) → length m ≡ length l
      → ((k : ℕ) → k < length l → entries m k ≡ accumulated d old k)
      → m ≡ step_list accumulate d (repeated t l)
  unfolding entries step_list
  all_summed m e h =
      is_firsts (length l) (accumulated d old) m e h
      ∙ firsts_same (length l) (accumulated d old) (stepped accumulate d (entries (repeated t l)))
      (λ k below. sym (stepped_is k below))
      ∙ ap (λ n. firsts n (stepped accumulate d (entries (repeated t l)))) (sym repeated-length)

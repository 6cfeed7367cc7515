-- `sum_row` meets its contract: both entries that are read lie below `from`, so they are as they were.
use Prim.Native.Nat.{ℕ, ◌+◌, ◌-◌, ◌<◌, ◌≤◌}
use mathlib.Core.Path.{◌≡◌, sym, ◌∙◌, ap, ap₂}
use mathlib.Core.List.{List}
use native.Mathlib.Omega.{arith}
use lib.ListN.{length, length-set, get_or, set}
use lib.IntN.{ℤ, ◌+ℤ◌}
use mir.Syntax.{w64}
use mir.Val.{SFits}
use Rattle.definitions.specs.Integers.{◌⊕◌, 0ℤ}
use Rattle.definitions.specs.Steps.{entries}
use Rattle.step_laws.specs.Machine.{seen, seen_both, handed}
use Rattle.entry_steps.proofs.Split.{get_or-set_by}
use Rattle.repeats.specs.Repeats.{SummedTo}
use Rattle.repeats.proofs.rows.sum_row.Goals as goal

module _ {x d from k : ℕ} {l a : List ℤ} (t : SummedTo x d from k l a) (low : from ≤ k) (near : k < from + x)
    (near_too : k < from + d) (first : x ≤ from) (second : d ≤ from)
    (f : SFits w64 (get_or a (k - x) 0ℤ)) (g : SFits w64 (get_or a (k - d) 0ℤ))
    (h : SFits w64 (entries l (k - x) ⊕ entries l (k - d))) where
  sum_is : seen (get_or a (k - x) 0ℤ) +ℤ seen (get_or a (k - d) 0ℤ) ≡ entries l (k - x) ⊕ entries l (k - d)
  unfolding entries ◌⊕◌
  sum_is = seen_both f g ◌+ℤ◌ ∙ ap₂ ◌+ℤ◌ (t.below (k - x) (omega arith)) (t.below (k - d) (omega arith))

  sum_fits : SFits w64 (seen (get_or a (k - x) 0ℤ) +ℤ seen (get_or a (k - d) 0ℤ))
  sum_fits = rw sum_is h

  next : k < length l → SummedTo x d from (k + 1) l (set a k (seen (seen (get_or a (k - x) 0ℤ) +ℤ seen (get_or a (k - d) 0ℤ))))
  unfolding entries
  next room =
      let by = get_or-set_by a k _ (omega (arith, t.len)) in
      record {
        below = λ j b. by j _ (λ e. absurd (omega arith)) (λ ne. t.below j b);
        sums = λ j b i. by j _ (λ e. handed h sum_is ∙ ap (λ m. entries l (m - x) ⊕ entries l (m - d)) (sym e))
            (λ ne. t.sums j b (omega arith));
        len = length-set a k _ ∙ t.len;
      }

pub overflow_add-a : goal.overflow_add-a
overflow_add-a c =
    let r = c.requires.from_le_to in
    sum_fits c.loop-k.invariant c.loop-k.auto.k (omega arith) (omega arith) (omega arith) (omega arith)
    (record { sfits = omega arith }) (record { sfits = omega arith }) (c.requires.by_index _ c.loop-k.auto.k (omega arith))

pub loop-k-preserved : goal.loop-k-preserved
loop-k-preserved c =
    let r = c.requires.from_le_to in
    next c.loop-k.invariant c.loop-k.auto.k (omega arith) (omega arith) (omega arith) (omega arith)
    (record { sfits = omega arith }) (record { sfits = omega arith }) (c.requires.by_index _ c.loop-k.auto.k (omega arith))
    (omega arith)

-- A comb, place by place: what the next place gets is the new value, what an accumulate makes of the last one is the
-- old entry, and with either stored the comb has got one place further down, or back. Then where it starts and ends.
use mathlib.Core.Path.{◌≡◌, refl, sym, ◌∙◌, ap₂}
use mathlib.Core.List.{List}
use Prim.Native.Nat.{ℕ, ◌+◌, ◌-◌, ◌<◌, ◌≤◌}
use native.Mathlib.Nat.{not-le_of_lt}
use native.Mathlib.Omega.{arith}
use lib.ListN.{length, set}
use lib.IntN.{ℤ}
use Rattle.definitions.specs.Integers.{◌⊕◌, ◌⊝◌}
use Rattle.definitions.specs.Steps.{comb, accumulate, stepped, entries, step_list}
use Rattle.step_laws.specs.Tests.{by_order}
use Rattle.step_laws.specs.Firsts.{is_firsts, firsts-entries}
use Rattle.step_laws.specs.Signed.{sub-add}
use Rattle.step_laws.specs.Step.{combed_from, stepped_below}
use Rattle.entry_steps.specs.Passes.{new_entry}
use Rattle.entry_steps.proofs.Split.{moved_down, moved_up, all_firsts, all_below}
use Rattle.combs.specs.Combs.{CombedTo}

-- before the first place
pub start : (d : ℕ) (l : List ℤ) → d ≤ length l → CombedTo d l l (length l)
unfolding entries
start d l h =
    record {
      from = h;
      most = omega arith;
      split = record { len = refl; below = λ k b m. refl; above = λ k b m. absurd (not-le_of_lt m b) };
    }

module _ {d : ℕ} {l m : List ℤ} {i : ℕ} (p : CombedTo d l m i) where
  -- a place that is not yet taken, and the one d before it
  pub new_is : (k : ℕ) → d ≤ k → k < i → new_entry comb d m k ≡ stepped comb d (entries l) k
  unfolding stepped
  new_is k h b =
      ap₂ ◌⊝◌ (p.split.below k b (omega arith))
      (p.split.below (k - d) (omega arith) (omega arith))
      ∙ sym (combed_from d (entries l) k h)

  pub next : (k : ℕ) → i ≡ k + 1 → d ≤ k → CombedTo d l (set m k (new_entry comb d m k)) k
  next k e h =
      record {
        from = h;
        most = omega arith;
        split = moved_down p.split k k (omega arith) e refl _ (new_is k h (omega arith));
      }

  -- the place that was taken last
  module _ (one : 1 ≤ d) (b : i < length l) where
    pub old_is : new_entry accumulate d m i ≡ entries l i
    unfolding stepped
    old_is =
        ap₂ ◌⊕◌ (p.split.above i (omega arith) b ∙ combed_from d (entries l) i p.from)
        (p.split.below (i - d) (omega arith) (omega arith))
        ∙ sub-add (entries l i) (entries l (i - d))

    pub back : CombedTo d l (set m i (new_entry accumulate d m i)) (i + 1)
    back =
        record {
          from = omega arith;
          most = omega arith;
          split = moved_up p.split i (i + 1) b refl refl _ old_is;
        }

  pub ended : i ≤ d → m ≡ step_list comb d l
  unfolding step_list
  ended e =
      is_firsts (length l) (stepped comb d (entries l)) m p.split.len
      (λ k b.
      by_order k i (λ low. p.split.below k low b ∙ sym (stepped_below d (entries l) comb k (omega arith)))
      (λ high. p.split.above k high b))

  pub not_begun : length l ≤ i → m ≡ l
  not_begun h = all_firsts (all_below p.split h) ∙ firsts-entries l

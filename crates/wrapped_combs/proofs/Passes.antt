-- A comb modulo 2^64 that has got down to some place: where it starts, that what is put at the next place is the step's
-- value, and where it ends.
use mathlib.Core.Path.{◌≡◌, refl, sym, ◌∙◌, ap, ap₂}
use mathlib.Core.List.{List}
use Prim.Native.Nat.{ℕ, ◌+◌, ◌-◌, ◌<◌, ◌≤◌}
use native.Mathlib.Nat.{not-le_of_lt}
use native.Mathlib.Omega.{arith}
use lib.ListN.{length, set}
use lib.IntN.{ℤ}
use Rattle.definitions.specs.Integers.{◌⊝◌}
use Rattle.definitions.specs.Steps.{comb, entries}
use Rattle.step_laws.specs.Tests.{by_order}
use Rattle.step_laws.specs.Firsts.{is_firsts}
use Rattle.entry_steps.specs.Passes.{set_four}
use Rattle.entry_steps.proofs.FourEntries.{moved_four_down}
use Rattle.entry_steps.proofs.Split.{moved_down}
use Rattle.wrapped_sums.specs.Wrapped.{wrap}
use Rattle.wrapped_combs.specs.Wrapped.{wrap_entry, wrapped_step, wrapped_list, DownTo}
use Rattle.wrapped_combs.specs.Laws.{wrapped_below, wrapped_comb}

module _ (d : ℕ) (l : List ℤ) (h : d ≤ length l) where
  pub start_down : DownTo d l l (length l)
  unfolding entries
  start_down =
      record {
        from = h;
        most = omega arith;
        split = record { len = refl; below = λ k b m. refl; above = λ k b m. absurd (not-le_of_lt m b) };
      }

module _ {d : ℕ} {l m : List ℤ} {i : ℕ} (p : DownTo d l m i) where
  -- a place that is not yet taken, and the one d before it
  new_down : (k : ℕ) → d ≤ k → k < i → wrap_entry comb d m k ≡ wrapped_step comb d (entries l) k
  new_down k h b =
      ap wrap
      (ap₂ ◌⊝◌ (p.split.below k b (omega arith))
      (p.split.below (k - d) (omega arith) (omega arith)))
      ∙ sym (wrapped_comb d (entries l) k h)

  pub next_down : (k : ℕ) → i ≡ k + 1 → d ≤ k → DownTo d l (set m k (wrap_entry comb d m k)) k
  next_down k e h =
      record {
        from = h;
        most = omega arith;
        split = moved_down p.split k k (omega arith) e refl _ (new_down k h (omega arith));
      }

  pub four_down : (k : ℕ) → i ≡ k + 4 → d ≤ k → DownTo d l (set_four m k (wrap_entry comb d m)) k
  four_down k e h =
      record {
        from = h;
        most = omega arith;
        split =
            moved_four_down m k (wrap_entry comb d m) p.split e p.most
            (λ x low high. new_down x (omega arith) (omega arith));
      }

  pub ended_down : i ≤ d → m ≡ wrapped_list comb d l
  unfolding wrapped_list
  ended_down e =
      is_firsts (length l) (wrapped_step comb d (entries l)) m p.split.len
      (λ k b.
      by_order k i (λ low. p.split.below k low b ∙ sym (wrapped_below comb d (entries l) k (omega arith)))
      (λ high. p.split.above k high b))

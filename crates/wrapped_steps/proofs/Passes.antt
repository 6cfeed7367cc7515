-- An accumulate modulo 2^64 that has got up to some place: where it starts, that what is put at the next place is the
-- step's value, and where it ends.
use mathlib.Core.Path.{◌≡◌, refl, sym, ◌∙◌, ap, ap₂}
use mathlib.Core.List.{List}
use Prim.Native.Nat.{ℕ, ◌+◌, ◌-◌, ◌<◌, ◌≤◌}
use native.Mathlib.Omega.{arith}
use lib.ListN.{length, set}
use lib.IntN.{ℤ}
use Rattle.definitions.specs.Integers.{◌⊕◌}
use Rattle.definitions.specs.Steps.{accumulate, entries}
use Rattle.entry_steps.specs.Passes.{set_four}
use Rattle.entry_steps.proofs.FourEntries.{moved_four_up}
use Rattle.entry_steps.proofs.Split.{moved_up, all_firsts, all_below}
use Rattle.wrapped_sums.specs.Wrapped.{wrap}
use Rattle.wrapped_combs.specs.Wrapped.{wrap_entry, wrapped_step, wrapped_list}
use Rattle.wrapped_combs.specs.Laws.{wrapped_below, wrapped_sum}
use Rattle.wrapped_steps.specs.Upward.{UpTo}

module _ (d : ℕ) (l : List ℤ) (h : d ≤ length l) where
  pub start_up : UpTo d l l d
  unfolding entries
  start_up =
      record {
        from = omega arith;
        most = h;
        split =
            record {
              len = refl;
              below = λ k b m. sym (wrapped_below accumulate d (entries l) k b);
              above = λ k b m. refl;
            };
      }

module _ {d : ℕ} {l m : List ℤ} {i : ℕ} (p : UpTo d l m i) (one : 1 ≤ d) where
  -- a place that is not yet taken, where the one d before it is
  new_up : (k : ℕ) → i ≤ k → k < i + d → k < length l → wrap_entry accumulate d m k
      ≡ wrapped_step accumulate d (entries l) k
  new_up k h b c =
      ap wrap
      (ap₂ ◌⊕◌ (p.split.above k h c)
      (p.split.below (k - d) (omega arith) (omega arith)))
      ∙ sym (wrapped_sum d (entries l) k (omega arith) one)

  pub next_up : i < length l → UpTo d l (set m i (wrap_entry accumulate d m i)) (i + 1)
  next_up b =
      record {
        from = omega arith;
        most = omega arith;
        split = moved_up p.split i (i + 1) b refl refl _ (new_up i (omega arith) (omega arith) b);
      }

  pub four_up : 4 ≤ d → i + 4 ≤ length l → UpTo d l (set_four m i (wrap_entry accumulate d m)) (i + 4)
  four_up four b =
      record {
        from = omega arith;
        most = b;
        split =
            moved_four_up m i (wrap_entry accumulate d m) p.split refl refl b
            (λ x low high. new_up x low (omega arith) (omega arith));
      }

  pub ended_up : length l ≤ i → m ≡ wrapped_list accumulate d l
  unfolding wrapped_list
  ended_up h = all_firsts (all_below p.split h)

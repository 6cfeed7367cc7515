-- Chains of at most two entries, taken as one row: what is added to an entry is one of the first ones, which stay.
use mathlib.Core.Path.{◌≡◌, refl, sym, ◌∙◌, ap, ap₂}
use mathlib.Core.List.{List}
use Prim.Native.Nat.{ℕ, ◌-◌, ◌%◌, ◌<◌, ◌≤◌}
use native.Mathlib.Nat.{mod-lt, not-suc-le-zero}
use native.Mathlib.Omega.{arith}
use lib.ListN.{length}
use lib.IntN.{ℤ}
use Rattle.definitions.specs.Integers.{◌⊕◌}
use Rattle.definitions.specs.Steps.{accumulate, accumulated, entries, in_range, stepped}
use Rattle.step_laws.specs.Accumulated.{accumulated_from, accumulated_below}
use Rattle.step_laws.specs.Step.{not-over_each}
use Rattle.entry_steps.specs.Passes.{new_entry, Split}
use Rattle.entry_steps.specs.Asked.{Way, known, narrow, wide, AskedAt, AskedOfStep}
use Rattle.chains.specs.Tested.{Found, Tested}
use Rattle.accumulates.proofs.TestedPass.{still_narrow}

module _ (d : ℕ) where
  pub second_start : (l : List ℤ) → Split l (length l) d (accumulated d (entries l)) (entries l)
  unfolding entries
  second_start l =
      record {
        len = refl;
        below = λ k h b. sym (accumulated_below d (entries l) k h);
        above = λ k h b. refl;
      }

  module _ (one : 1 ≤ d) (l : List ℤ) {m : List ℤ} {x : ℕ}
      (p : Split m (length l) x (accumulated d (entries l)) (entries l)) where
    pub second_is : d ≤ x → x < length l → new_entry accumulate d m x ≡ accumulated d (entries l) x
    second_is from b =
        ap₂ ◌⊕◌ (p.above x (omega arith) b) (p.below (x - d) (omega arith) (omega arith))
        ∙ sym (accumulated_from d (entries l) x one from)

    -- all chains as a group
    pub second_tested : {w : ℕ} → ((k : ℕ) → k < x → Found w d l k) → Tested w d 0 d x l m
    second_tested found =
        record {
          taken = record {
            len = p.len;
            new = λ k _ _ below b. p.below k below b;
            lower = λ k h b. absurd (not-suc-le-zero h);
            upper = λ k h b. absurd (wide k h);
            later = λ k h b. p.above k h b;
          };
          found = λ k _ _ below b. found k below;
        }
      where
        wide : (k : ℕ) → d ≤ k % d → ⊥
        wide k h = omega (arith, mod-lt k one)

    -- what is asked of the step is asked of the next place
    pub asked_second : (w : ℕ) → ((k : ℕ) → k < x → Found w d l k) → d ≤ x → x < length l → (t : Way)
        → AskedOfStep t w accumulate d l → AskedAt t w accumulate d m x
    unfolding entries stepped
    asked_second w found from b known none =
        ap (in_range w) (second_is from b) ∙ not-over_each accumulate d l w none x from b
    asked_second w found from b narrow n =
        let s = (still_narrow (second_tested found) n).small in (s x, s (x - d))
    asked_second w found from b wide _ = tt

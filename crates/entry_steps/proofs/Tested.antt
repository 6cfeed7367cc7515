-- What a tested step comes to: whole where every new value was found within w, undone where one was not.
use mathlib.Core.Path.{◌≡◌}
use mathlib.Core.Bool.{true, false}
use mathlib.Core.List.{List}
use Prim.Native.Nat.{ℕ, ◌<◌, ◌≤◌}
use lib.ListN.{length}
use lib.IntN.{ℤ}
use Rattle.definitions.specs.Steps.{Sort, stepped, in_range, entries, step_list}
use Rattle.step_laws.specs.Step.{over_is, not-over_all}
use Rattle.entry_steps.specs.Passes.{SteppedOrUndone}

module _ {w : ℕ} {s : Sort} {d : ℕ} {l m : List ℤ} where
  pub whole : ((k : ℕ) → d ≤ k → k < length l → in_range w (stepped s d (entries l) k) ≡ true) → m ≡ step_list s d l
      → SteppedOrUndone w s d l m true
  whole inside is = record { over = not-over_all s d l w inside; leaves = is }

  pub undone : (k : ℕ) → d ≤ k → k < length l → in_range w (stepped s d (entries l) k) ≡ false → m ≡ l
      → SteppedOrUndone w s d l m false
  undone k from below out is =
      record {
        over = over_is s d l w (record { at = k; from = from; below = below; outside = out });
        leaves = is;
      }

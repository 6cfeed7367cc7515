-- `copy_up` meets its contract. The loop's invariant: the entries below i are f's, whichever f comes again at d and
-- begins as they did.
use Prim.Native.Nat.{ℕ, ◌<◌}
use mathlib.Core.Path.{◌≡◌}
use Rattle.definitions.specs.Series.{Series}
use Rattle.definitions.specs.Steps.{entries}
use Rattle.repeats.specs.Repeats.{Again}
use Rattle.repeats.proofs.copy_up.Given as goal

abbrev pub invariant-loop-i : goal.invariant-loop-i
invariant-loop-i l =
    (f : Series) → Again l.d f → ((k : ℕ) → k < l.d → entries l.initial.a k ≡ f k) → (k : ℕ) → k < l.i → entries l.a k ≡ f k

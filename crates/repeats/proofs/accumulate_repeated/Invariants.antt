-- `accumulate_repeated` meets its contract. The loop's invariant: the entries below `from` are the accumulate's, and
-- `from - rest` is a multiple of the period.
use Prim.Native.Nat.{ℕ, ◌-◌, ◌<◌}
use mathlib.Core.Path.{◌≡◌}
use Rattle.definitions.specs.Series.{Series}
use Rattle.definitions.specs.Steps.{accumulated, entries}
use Rattle.repeats.specs.Repeats.{Again}
use Rattle.repeats.proofs.accumulate_repeated.Given as goal

abbrev pub invariant-loop-from : goal.invariant-loop-from
invariant-loop-from l =
    ((f : Series) → Again l.t f → Again (l.from - l.rest) f)
    × ((f : Series) → Again l.t f → ((k : ℕ) → k < l.d → entries l.initial.a k ≡ f k) → (k : ℕ) → k < l.from → k < l.n
    → entries l.a k ≡ accumulated l.d f k)

abbrev pub decreases-loop-from : goal.decreases-loop-from
decreases-loop-from l = l.n - l.from

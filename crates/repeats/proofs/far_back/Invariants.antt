-- `far_back` meets its contract. The loop's invariant: what comes again at d comes again at `far`.
use Prim.Native.Nat.{◌-◌, ◌≤◌}
use Rattle.definitions.specs.Series.{Series}
use Rattle.repeats.specs.Repeats.{Again}
use Rattle.repeats.proofs.far_back.Given as goal

abbrev pub invariant-loop-far : goal.invariant-loop-far
invariant-loop-far l = (1 ≤ l.d) × (l.d ≤ l.far) × (l.far ≤ l.n) × ((f : Series) → Again l.d f → Again l.far f)

abbrev pub decreases-loop-far : goal.decreases-loop-far
decreases-loop-far l = l.n - l.far

-- `past_sixteens`: none starts in the sixteens before.
use Rattle.std.proofs.Common.{◌≤◌, ◌-◌, length}
use Rattle.keeping.specs.Trying.{Unmarked}
use Rattle.keeping.proofs.marks.past_sixteens.Given as goal

abbrev pub invariant-loop-at : goal.invariant-loop-at
invariant-loop-at l = (l.from ≤ l.at) × (l.at ≤ length l.shelf) × Unmarked l.shelf l.from l.at

abbrev pub decreases-loop-at : goal.decreases-loop-at
decreases-loop-at l = length l.shelf - l.at

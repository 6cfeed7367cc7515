-- `walk`: what is left of the walk is how it comes out (Walking).
use Prim.Native.Nat.{◌-◌}
use lib.ListN.{length}
use Rattle.shelves.proofs.Walking.{Underway}
use Rattle.shelves.proofs.walk.Given as goal

abbrev pub invariant-loop-at : goal.invariant-loop-at
invariant-loop-at l = Underway l.kind l.n l.shelf l.at

abbrev pub decreases-loop-at : goal.decreases-loop-at
decreases-loop-at l = length l.shelf - l.at

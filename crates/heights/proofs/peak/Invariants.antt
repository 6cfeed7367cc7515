-- `peak`: from what was found last, a look over the rest comes to what a look over all does (`Reached`).
use Prim.Native.Nat.{◌-◌}
use lib.ListN.{length}
use Rattle.heights.proofs.Looks.{Reached}
use Rattle.heights.proofs.peak.Given as goal

abbrev pub invariant-loop-i : goal.invariant-loop-i
invariant-loop-i l = Reached l.coeffs l.h l.p l.i

abbrev pub decreases-loop-i : goal.decreases-loop-i
decreases-loop-i l = length l.coeffs - l.i

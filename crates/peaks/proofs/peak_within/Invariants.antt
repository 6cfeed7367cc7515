-- `peak_within`: as `peak`; each magnitude that is found is an entry's, so it is within the bound.
use Prim.Native.Nat.{◌-◌}
use lib.ListN.{length}
use Rattle.heights.proofs.Looks.{Reached}
use Rattle.peaks.proofs.peak_within.Given as goal

abbrev pub invariant-loop-i : goal.invariant-loop-i
invariant-loop-i l = Reached l.coeffs l.h l.p l.i

abbrev pub decreases-loop-i : goal.decreases-loop-i
decreases-loop-i l = length l.coeffs - l.i

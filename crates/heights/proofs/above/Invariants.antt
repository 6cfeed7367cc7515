-- `above`: no entry that was passed over has a larger magnitude.
use Rattle.heights.specs.Above.{NoneAbove}
use Rattle.heights.proofs.above.Given as goal

abbrev pub invariant-loop-i : goal.invariant-loop-i
invariant-loop-i l = NoneAbove l.h l.coeffs l.from l.i

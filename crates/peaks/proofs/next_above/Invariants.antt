-- `next_above`: the blocks that were passed over have no magnitude above h.
use Rattle.std.proofs.Common.{◌+◌, ◌*◌}
use Rattle.heights.specs.Above.{NoneAbove}
use Rattle.peaks.proofs.next_above.Given as goal

abbrev pub invariant-loop-k : goal.invariant-loop-k
invariant-loop-k l = NoneAbove l.h l.coeffs l.from (l.from + l.k * 16)

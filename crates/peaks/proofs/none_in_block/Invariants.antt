-- `none_in_block`: where no sign has come together so far, no magnitude so far is above h.
use Rattle.std.proofs.Common.{◌≡◌, true, pos}
use Rattle.std.specs.Int.Signed.{le_z}
use Rattle.heights.specs.Above.{NoneAbove}
use Rattle.peaks.proofs.none_in_block.Given as goal

abbrev pub invariant-loop-x : goal.invariant-loop-x
invariant-loop-x l = le_z (pos 0) l.gathered ≡ true → NoneAbove l.h l.block 0 l.x-index

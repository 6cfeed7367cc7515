-- `copy`: what is left to store, stored from `i` on, gives all of it stored from 0 on.
use Rattle.std.proofs.Common.{◌≡◌, take, drop}
use lib.Seq.{sets}
use Rattle.half_passes.proofs.copy.Given as goal

abbrev pub invariant-loop-i : goal.invariant-loop-i
invariant-loop-i l = sets l.out l.i (drop l.i (take l.size l.bytes)) ≡ sets l.initial.out 0 (take l.size l.bytes)

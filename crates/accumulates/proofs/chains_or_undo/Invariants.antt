-- `accumulates::chains_or_undo` meets its contract. The loop's invariant: the chains below c are taken and
-- tested. A group that stops short shows a value that passes w, and what was taken can be put back.
use Prim.Native.Nat.{◌-◌, ◌≤◌}
use lib.ListN.{length}
use Rattle.chains.specs.Tested.{Tested}
use Rattle.accumulates.proofs.chains_or_undo.Given as goal

abbrev pub invariant-loop-c : goal.invariant-loop-c
invariant-loop-c g l = (l.c ≤ l.to) × Tested l.w l.d 0 l.c (length l.initial.a) l.initial.a l.a

abbrev pub decreases-loop-c : goal.decreases-loop-c
decreases-loop-c g l = l.to - l.c

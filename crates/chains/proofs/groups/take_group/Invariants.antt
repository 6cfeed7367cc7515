-- `chains::groups::take_group` meets its contract. The loop's invariant: the group is taken and tested before the row
-- at k. A row that stops short shows a value that passes w.
use Prim.Native.Nat.{◌+◌, ◌-◌}
use lib.ListN.{length}
use Rattle.chains.proofs.Group.{GroupAt}
use Rattle.chains.proofs.groups.take_group.Given as goal

abbrev pub invariant-loop-k : goal.invariant-loop-k
invariant-loop-k g l = GroupAt l.w l.d l.c g.row.N l.k l.initial.a l.a l.s

abbrev pub decreases-loop-k : goal.decreases-loop-k
decreases-loop-k g l = length l.initial.a + l.d - l.k

-- `spread` meets its contract. The loop's invariant: the entries from i on were moved; what lies above the last of them
-- is spread, what lies below i is old, and there is nothing between (Spreading).
use Prim.Native.Nat.{◌-◌}
use lib.ListN.{length}
use Rattle.definitions.specs.Steps.{entries}
use Rattle.shapes.proofs.Spreading.{Spreading}
use Rattle.shapes.proofs.spread.Given as goal

abbrev pub invariant-loop-i : goal.invariant-loop-i
invariant-loop-i l = Spreading l.t (entries l.fn.a) (length l.fn.a) l.a (l.i - 1)

-- `wrapped_steps::rows::known_rows` meets its contract. The invariant: the accumulate got up to k, where a row begins,
-- and the sums are the row before.
use Prim.Native.Nat.{◌-◌}
use lib.ListN.{length}
use Rattle.wrapped_steps.specs.Upward.{UpTo}
use Rattle.wrapped_steps.specs.Rows.{Carried}
use Rattle.wrapped_steps.proofs.rows.known_rows.Given as goal

abbrev pub invariant-loop-a : goal.invariant-loop-a
invariant-loop-a g l = UpTo g.row.N l.initial.a l.a l.k × Carried g.row.N l.k 0 l.s l.a

abbrev pub decreases-loop-a : goal.decreases-loop-a
decreases-loop-a g l = length l.initial.a - l.k

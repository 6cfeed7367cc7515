-- `accumulates::back::undo_rows` meets its contract. The invariant: from the row after k on the entries are
-- those of whatever list the pass was stopped on, and below it they are as they were found.
use Prim.Native.Nat.{◌+◌, ◌%◌, ◌≤◌}
use mathlib.Core.Path.{◌≡◌}
use mathlib.Core.List.{List}
use lib.ListN.{length}
use lib.IntN.{ℤ}
use Rattle.definitions.specs.Steps.{entries}
use Rattle.entry_steps.specs.Passes.{Split}
use Rattle.accumulates.specs.Stopped.{Stopped}
use Rattle.accumulates.proofs.back.undo_rows.Given as goal

abbrev pub invariant-loop-k : goal.invariant-loop-k
invariant-loop-k v =
    (v.k ≤ length v.initial.a)
    × (v.k % v.d ≡ 0)
    × (length v.a ≡ length v.initial.a)
    × ((l : List ℤ) → Stopped v.d v.full v.to v.stop l v.initial.a → Split v.a (length v.initial.a) (v.k + v.d) (entries v.initial.a) (entries l))

abbrev pub decreases-loop-k : goal.decreases-loop-k
decreases-loop-k l = l.k

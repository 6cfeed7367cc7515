-- `next_row`: the row so far is that of the indices from the i-th on, and one more joins it in front.
use Rattle.std.proofs.Common.{◌≡◌, ◌+◌, ◌-◌, length}
use Rattle.counting.specs.Census.{indices}
use Rattle.counting.specs.Passes.{next_row}
use Rattle.counting.proofs.passes.next_row.Given as goal

abbrev pub invariant-loop-i : goal.invariant-loop-i
invariant-loop-i l = l.row ≡ next_row l.due (indices (l.a + l.i) (length l.heights - l.i))

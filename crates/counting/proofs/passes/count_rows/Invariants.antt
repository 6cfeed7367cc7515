-- `count_rows`: three numbers of the rows for each turn (Turns), and no more turns than heights.
use Rattle.std.proofs.Common.{suc, ◌-◌, ◌*◌, length}
use Rattle.counting.specs.Census.{indices, tallest}
use Rattle.counting.proofs.Turns.{Turn}
use Rattle.counting.proofs.passes.count_rows.Given as goal

abbrev pub invariant-loop-row : goal.invariant-loop-row
invariant-loop-row l = Turn (indices l.a (length l.heights)) l.due (3 * l.count)

abbrev pub decreases-loop-row : goal.decreases-loop-row
decreases-loop-row l = suc (tallest (indices l.a (length l.heights))) - l.due

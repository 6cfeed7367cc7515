-- `write_rows`: the rows below the height that is due stand in front of what stood behind (Turns).
use Rattle.std.proofs.Common.{suc, ◌-◌, length}
use Rattle.counting.specs.Census.{indices, tallest}
use Rattle.counting.proofs.Turns.{Wrote}
use Rattle.counting.proofs.passes.write_rows.Given as goal

abbrev pub invariant-loop-row : goal.invariant-loop-row
invariant-loop-row l = Wrote (indices l.a (length l.heights)) l.due l.at l.initial.rows l.rows

abbrev pub decreases-loop-row : goal.decreases-loop-row
decreases-loop-row l = suc (tallest (indices l.a (length l.heights))) - l.due

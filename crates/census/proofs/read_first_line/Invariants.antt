-- `census::read_first_line` meets its contract. The loop's invariant: what was read lies in the buffer. It ends, for
-- each read but the last gives something.
use Rattle.std.proofs.Common.{◌-◌, ◌≤◌, length}
use Rattle.census.proofs.read_first_line.Given as goal

abbrev pub invariant-loop-at : goal.invariant-loop-at
invariant-loop-at l = l.at ≤ length l.input

abbrev pub decreases-loop-at : goal.decreases-loop-at
decreases-loop-at l = length l.input - l.at

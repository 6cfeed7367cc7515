-- `list::list_piece` meets its contract. The loop's invariant: the line that is open is the one after what stands before
-- the rest of the piece. It ends, for each run takes something.
use Rattle.std.proofs.Common.{length}
use Rattle.list.proofs.Parts.{Before}
use Rattle.list.proofs.list_piece.Given as goal

abbrev pub invariant-loop-rest : goal.invariant-loop-rest
invariant-loop-rest l = Before l.initial.line l.piece l.rest l.line

abbrev pub decreases-loop-rest : goal.decreases-loop-rest
decreases-loop-rest l = length l.rest

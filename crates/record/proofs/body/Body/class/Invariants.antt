-- `class`: the class of the largest so far, and what is left (Passes).
use Rattle.record.proofs.Passes.{Looked}
use Rattle.record.proofs.body.Body.class.Given as goal

abbrev pub invariant-loop-i : goal.invariant-loop-i
invariant-loop-i g l = Looked g.row.W l.self l.all l.i

-- `make` meets its contract: an invariant of the first i factors (Underway).
use Rattle.cascade.proofs.Underway.{Underway}
use Rattle.cascade.proofs.making.make.Given as goal

abbrev pub invariant-loop-i : goal.invariant-loop-i
invariant-loop-i l = Underway l.indices l.b l.scratch l.so l.i

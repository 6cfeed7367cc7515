-- `sizes_of` meets its contract: an invariant of the indices passed (Sizing).
use Rattle.cascade.proofs.Sizing.{Sized}
use Rattle.cascade.proofs.asked.sizes_of.Given as goal

abbrev pub invariant-loop-n : goal.invariant-loop-n
invariant-loop-n l = Sized l.indices l.total l.longest l.n-index

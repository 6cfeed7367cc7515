-- `combs::take_tested` meets its contract, which is the loop's invariant: the comb got down to k, tested.
use Rattle.combs.specs.Combs.{TestedTo}
use Rattle.combs.proofs.take_tested.Given as goal

abbrev pub invariant-loop-k : goal.invariant-loop-k
invariant-loop-k g l = TestedTo l.w l.d l.initial.a l.a l.k

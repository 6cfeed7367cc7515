-- `wrapped_combs::down::fours_down` meets its contract, which is the loop's invariant: the comb got down to t.
use Rattle.wrapped_combs.specs.Wrapped.{DownTo}
use Rattle.wrapped_combs.proofs.down.fours_down.Given as goal

abbrev pub invariant-loop-t : goal.invariant-loop-t
invariant-loop-t l = DownTo l.d l.initial.a l.a l.t

abbrev pub decreases-loop-t : goal.decreases-loop-t
decreases-loop-t l = l.t

-- `wrapped_steps::up::fours_up` meets its contract, which is the loop's invariant: the accumulate got up to k.
use Prim.Native.Nat.{◌-◌}
use lib.ListN.{length}
use Rattle.wrapped_steps.specs.Upward.{UpTo}
use Rattle.wrapped_steps.proofs.up.fours_up.Given as goal

abbrev pub invariant-loop-a : goal.invariant-loop-a
invariant-loop-a l = UpTo l.d l.initial.a l.a l.k

abbrev pub decreases-loop-a : goal.decreases-loop-a
decreases-loop-a l = length l.initial.a - l.k

-- `wrapped_steps::up::fours_up` meets its contract, which is the loop's invariant: the accumulate got up to k.
use native.Mathlib.Omega.{arith}
use Rattle.wrapped_steps.proofs.Passes.{start_up, four_up}
use Rattle.wrapped_steps.proofs.up.fours_up.Goals as goal

pub loop-a-init : goal.loop-a-init
loop-a-init c = start_up c.args.d c.args.a.now c.requires.1

pub loop-a-preserved : goal.loop-a-preserved
loop-a-preserved c =
    rw c.step_four.ensures
    (four_up c.loop-a.invariant (omega arith) (omega arith) (omega arith))

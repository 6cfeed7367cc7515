-- `wrapped_combs::down::fours_down` meets its contract, which is the loop's invariant: the comb got down to t.
use native.Mathlib.Omega.{arith}
use Rattle.wrapped_combs.proofs.Passes.{start_down, four_down}
use Rattle.wrapped_combs.proofs.down.fours_down.Goals as goal

pub loop-t-init : goal.loop-t-init
loop-t-init c = start_down c.args.d c.args.a.now c.requires

pub loop-t-preserved : goal.loop-t-preserved
loop-t-preserved c = rw c.step_four.ensures (four_down c.loop-t.invariant _ (omega arith) (omega arith))

-- `wrapped_combs::down::ones_down` meets its contract. The invariant: of whatever list the comb got down to `from`, it
-- got down to t.
use native.Mathlib.Omega.{arith}
use Rattle.wrapped_combs.proofs.Passes.{next_down, ended_down}
use Rattle.wrapped_combs.proofs.down.ones_down.Goals as goal

pub loop-t-preserved : goal.loop-t-preserved
loop-t-preserved c = λ l p. rw c.step_one.ensures (next_down (c.loop-t.invariant l p) _ (omega arith) (omega arith))

pub returns : goal.returns
returns c = λ l p. ended_down (c.loop-t.invariant l p) (omega arith)

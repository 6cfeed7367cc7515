-- `wrapped_steps::up::ones_up` meets its contract. The invariant: of whatever list the accumulate got up to `from`, it
-- got up to i.
use native.Mathlib.Omega.{arith}
use Rattle.wrapped_steps.proofs.Passes.{next_up, ended_up}
use Rattle.wrapped_steps.proofs.up.ones_up.Goals as goal

pub loop-i-preserved : goal.loop-i-preserved
loop-i-preserved c = λ l p.
    rw c.step_one.ensures (next_up (c.loop-i.invariant l p) c.requires.0 (omega (arith, p.split.len)))

pub returns : goal.returns
returns c = λ l p. ended_up (c.loop-i.invariant l p) c.requires.0 (omega (arith, p.split.len))

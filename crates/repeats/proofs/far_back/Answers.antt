-- `far_back` meets its contract: what comes again at `far` comes again at its double.
use native.Mathlib.Omega.{arith}
use Rattle.repeats.proofs.Repeats.{again_sum}
use Rattle.repeats.proofs.far_back.Goals as goal

pub loop-far-preserved : goal.loop-far-preserved
loop-far-preserved c =
    let again = c.loop-far.invariant.3 in
    (c.requires.0, omega arith, omega arith, λ f a. again_sum _ _ (again f a) (again f a))

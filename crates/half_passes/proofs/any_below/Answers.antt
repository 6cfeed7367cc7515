-- `any_below`: what was found so far is that of the first i.
use Rattle.std.proofs.Common.{refl, add-one}
use Rattle.half_passes.specs.Any.{any_to}
use Rattle.half_passes.proofs.any_below.Goals as goal

pub loop-i-init : goal.loop-i-init
unfolding any_to
loop-i-init g c = λ p h. refl

pub loop-i-preserved : goal.loop-i-preserved
unfolding any_to
loop-i-preserved g c = λ p h.
    rw (add-one, c.loop-i.invariant p h, h c.loop-i.i c.is_so-found.result c.loop-i-test.true c.is_so-found.ensures)

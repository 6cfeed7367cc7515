-- `sums::plus`: the sum fits.
use Rattle.definitions.specs.Integers.{◌⊕◌}
use Rattle.step_laws.specs.Machine.{seen_both, answered}
use Rattle.light_sums.proofs.sums.plus.Goals as goal

pub overflow_add-result : goal.overflow_add-result
unfolding ◌⊕◌
overflow_add-result c = rw (seen_both c.ranges.x c.ranges.y ◌⊕◌) c.requires

pub returns : goal.returns
unfolding ◌⊕◌
returns c = answered c.ranges.x c.ranges.y ◌⊕◌ c.requires

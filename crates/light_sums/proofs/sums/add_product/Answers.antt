-- `sums::add_product`: the product fits, and so does the sum.
use mathlib.Core.Path.{ap₂}
use mir.Facts.{to_z-of_z}
use Rattle.definitions.specs.Integers.{◌⊕◌, ◌⊗◌}
use Rattle.step_laws.specs.Machine.{seen_both, answered, handed}
use Rattle.light_sums.proofs.sums.add_product.Goals as goal

pub overflow_mul-result : goal.overflow_mul-result
unfolding ◌⊗◌
overflow_mul-result c = rw (seen_both c.ranges.x c.ranges.y ◌⊗◌) c.requires.0

pub overflow_add-result : goal.overflow_add-result
unfolding ◌⊕◌ ◌⊗◌
overflow_add-result c = rw (to_z-of_z c.ranges.s, answered c.ranges.x c.ranges.y ◌⊗◌ c.requires.0) c.requires.1

pub returns : goal.returns
unfolding ◌⊕◌ ◌⊗◌
returns c =
    handed c.requires.1 (ap₂ ◌⊕◌ (to_z-of_z c.ranges.s) (answered c.ranges.x c.ranges.y ◌⊗◌ c.requires.0))

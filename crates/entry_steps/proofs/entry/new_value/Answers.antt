-- `entry_steps::entry::new_value` meets its contract: each arm computes the value of its own sort.
use Rattle.definitions.specs.Integers.{◌⊕◌, ◌⊝◌, ⊖}
use Rattle.step_laws.specs.Machine.{seen_both, answered}
use Rattle.entry_steps.proofs.entry.new_value.Goals as goal

pub overflow_sub-result : goal.overflow_sub-result
unfolding ◌⊕◌ ⊖
overflow_sub-result c =
    rw (seen_both c.ranges.x c.ranges.y ◌⊝◌)
    (rw c.in-Comb.is at c.requires)

pub overflow_add-result : goal.overflow_add-result
unfolding ◌⊕◌ ⊖
overflow_add-result c =
    rw (seen_both c.ranges.x c.ranges.y ◌⊕◌)
    (rw c.in-Accumulate.is at c.requires)

pub returns-in-Comb : goal.returns-in-Comb
unfolding ◌⊕◌ ⊖
returns-in-Comb c =
    rw c.in-Comb.is
    (answered c.ranges.x c.ranges.y ◌⊝◌
    (rw c.in-Comb.is at c.requires))

pub returns-in-Accumulate : goal.returns-in-Accumulate
unfolding ◌⊕◌ ⊖
returns-in-Accumulate c =
    rw c.in-Accumulate.is
    (answered c.ranges.x c.ranges.y ◌⊕◌
    (rw c.in-Accumulate.is at c.requires))

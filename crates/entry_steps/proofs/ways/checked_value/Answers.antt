-- `entry_steps::ways::checked_value` meets its contract: each arm computes the value of its own sort.
use Rattle.std.proofs.Common.{rules}
use Rattle.definitions.specs.Integers.{◌⊕◌, ⊖}
use Rattle.entry_steps.proofs.ways.checked_value.Goals as goal

pub returns-in-Comb : goal.returns-in-Comb
unfolding ◌⊕◌ ⊖
returns-in-Comb c = rw c.in-Comb.is (search rules)

pub returns-in-Accumulate : goal.returns-in-Accumulate
unfolding ◌⊕◌ ⊖
returns-in-Accumulate c = rw c.in-Accumulate.is (search rules)

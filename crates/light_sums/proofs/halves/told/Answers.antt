-- `halves::told`: a machine number is in range, but for -2^63.
use mathlib.Core.Path.{sym}
use Rattle.light_sums.proofs.Joins.{told-least, told_other}
use Rattle.light_sums.proofs.halves.told.Goals as goal

pub returns-then-v-eqminus9223372036854775808 : goal.returns-then-v-eqminus9223372036854775808
returns-then-v-eqminus9223372036854775808 c = sym (told-least _ c.if-v-eqminus9223372036854775808.true)

pub returns-else-v-eqminus9223372036854775808 : goal.returns-else-v-eqminus9223372036854775808
returns-else-v-eqminus9223372036854775808 c = told_other _ c.ranges.v c.if-v-eqminus9223372036854775808.false

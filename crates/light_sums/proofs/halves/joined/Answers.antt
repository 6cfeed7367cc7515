-- `halves::joined`: a product or a sum that no machine number is lies outside the range (Joins).
use mathlib.Core.Path.{sym, ◌∙◌}
use Rattle.light_sums.proofs.Joins.{above_out, sum_out, sum_told}
use Rattle.light_sums.proofs.halves.joined.Goals as goal

pub returns-in_err-checked_mul : goal.returns-in_err-checked_mul
returns-in_err-checked_mul c =
    c.from_residual.ensures ∙ sym (above_out c.requires c.ranges.v c.ranges.base c.in_err-checked_mul.ensures)

pub returns-in_err-checked_add : goal.returns-in_err-checked_add
returns-in_err-checked_add c =
    let (fits, is) = c.in_ok-checked_mul.ensures in
    c.from_residual-in_err-checked_add.ensures
    ∙ sym (sum_out c.requires c.ranges.v c.ranges.base c.ranges.d fits is c.in_err-checked_add.ensures)

pub returns : goal.returns
returns c =
    let (fits, is) = c.in_ok-checked_mul.ensures in
    let (sum_fits, sum_is) = c.in_ok-checked_add.ensures in
    c.told.ensures ∙ sum_told c.requires c.ranges.v c.ranges.base c.ranges.d fits is sum_fits sum_is

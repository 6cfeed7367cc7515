-- `comb_before_zeros` meets its contract: zeros are written as far as the comb reaches, and the step is taken on what
-- is written (Outlining).
use Rattle.std.proofs.lemmas.Result.{err_from_is_err_and}
use Rattle.outlined_steps.proofs.Outlining.{part_bounded, reached, stopped}
use Rattle.outlined_steps.proofs.comb_before_zeros.Goals as goal

pub take_step-requires : goal.take_step-requires
take_step-requires c =
    let p = c.requires in (
      p.0.size,
      part_bounded p.0 p.1 p.2 c.min-to.ensures c.write_zeros.ensures,
      p.0.good,
    )

pub returns-in_err-bound : goal.returns-in_err-bound
returns-in_err-bound c =
    let p = c.requires in
    let told = err_from_is_err_and c.from_residual.result c.from_residual.ensures.1 in
    rw told.1 (stopped p.0 p.1 p.2 c.min-to.ensures c.write_zeros.ensures c.in_err-bound.ensures)

pub returns : goal.returns
returns c =
    let p = c.requires in reached p.0 p.1 p.2 c.min-to.ensures c.write_zeros.ensures c.in_ok-bound.ensures

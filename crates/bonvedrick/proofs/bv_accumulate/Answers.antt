-- `bv_accumulate` meets its contract, that of the step. The limit is passed as its bits,
-- which stand for it since it fits.
use mir.Facts.{to_z-of_z}
use Rattle.definitions.specs.Steps.{accumulate}
use Rattle.bonvedrick.proofs.Limits.{asked_as_seen}
use Rattle.bonvedrick.proofs.bv_accumulate.Goals as goal

pub returns : goal.returns
returns c =
    let a = c.args in
    let step = c.apply.ensures in
    let told = asked_as_seen accumulate a.size a.buf.now (to_z-of_z c.ranges.w)
    (step.code_value, (step.count_value, step.a_after)) in
    record { code = told.0; count = told.1.0; leaves = told.1.1 }

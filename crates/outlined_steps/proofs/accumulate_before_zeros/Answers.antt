-- `accumulate_before_zeros` meets its contract: zeros are written up to d (Outlining).
use Rattle.outlined_steps.proofs.Outlining.{begins_again}
use Rattle.outlined_steps.proofs.accumulate_before_zeros.Goals as goal

pub returns : goal.returns
returns c =
    let p = c in
    begins_again p.requires.0 p.requires.1 p.requires.2 c.write_zeros.ensures

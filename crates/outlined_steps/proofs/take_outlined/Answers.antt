-- `take_outlined` meets its contract: a step that is too long changes nothing, and the others go by their sort and by
-- what is told.
use Rattle.outlined_steps.proofs.Outlining.{too_long}
use Rattle.outlined_steps.proofs.take_outlined.Goals as goal

pub returns-then-a-d : goal.returns-then-a-d
returns-then-a-d c = too_long c.requires c.if-a-d.true

-- `take_whole` meets its contract: all entries are written, and the step is taken on them (Outlining).
use mathlib.Core.Path.{refl}
use Rattle.outlined_steps.proofs.Outlining.{whole-step}
use Rattle.outlined_steps.proofs.take_whole.Goals as goal

pub returns : goal.returns
returns c = whole-step c.requires (rw c.write_out.ensures at c.in_ok-bound.ensures) refl

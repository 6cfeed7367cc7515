-- `slots_for`: two numbers, or none (Turns).
use mathlib.Core.Path.{sym, ap}
use native.Mathlib.Omega.{arith}
use lib.ListN.{length}
use Rattle.rescuing.proofs.Turns.{stretch_empty, stretch_some}
use Rattle.rescuing.proofs.passes.slots_for.Goals as goal

pub returns-then-at-start : goal.returns-then-at-start
returns-then-at-start c = sym (ap length (stretch_some c.args.at _ (omega arith)))

pub returns-else-at-start : goal.returns-else-at-start
returns-else-at-start c = sym (ap length (stretch_empty c.args.at _ (omega arith)))

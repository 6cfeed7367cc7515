-- `signed`: as they are, where the index is odd.
use Rattle.std.proofs.Common.{sym}
use Rattle.step_laws.specs.Firsts.{firsts-entries}
use Rattle.first_halves.proofs.signed.Goals as goal

pub returns-else-even : goal.returns-else-even
returns-else-even c = rw c.if-even.false (sym (firsts-entries c.args.a.now))

-- `comb_of_repeated` meets its contract: the first d entries are written, and zeros come after them (Outlining).
use Rattle.outlined_steps.proofs.Outlining.{cut}
use Rattle.outlined_steps.proofs.comb_of_repeated.Goals as goal

pub returns : goal.returns
returns c = cut c.requires.0 c.requires.1 c.requires.2 c.requires.3 c.repeat.ensures

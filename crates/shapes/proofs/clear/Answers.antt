-- `clear` meets its contract: a copy of a number is that number.
use Rattle.definitions.specs.Requests.{zeros}
use Rattle.shapes.proofs.clear.Goals as goal

pub returns : goal.returns
unfolding zeros
returns c = c.fill.ensures.after (λ y e. e)

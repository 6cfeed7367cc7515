-- `browse`: the numbers of what stands there.
use mathlib.Core.Path.{◌∙◌, ap}
use Rattle.browsing.specs.Browse.{told}
use Rattle.browsing.proofs.browse.Goals as goal

pub returns : goal.returns
returns c = c.from.ensures ∙ ap told c.shown_at.ensures

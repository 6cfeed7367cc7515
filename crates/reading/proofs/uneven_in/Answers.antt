-- `uneven_in`: by the form.
use mathlib.Core.Path.{◌∙◌}
use Rattle.reading.proofs.uneven_in.Goals as goal

pub middle_in-requires : goal.middle_in-requires
middle_in-requires c = rw c.in-Half.is at c.requires

pub returns-in-Half : goal.returns-in-Half
returns-in-Half c = c.middle_in.ensures ∙ rw c.in-Half.is

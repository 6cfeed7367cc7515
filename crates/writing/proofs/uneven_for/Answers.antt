-- `uneven_for`: by the form.
use mathlib.Core.Path.{◌∙◌}
use Rattle.writing.proofs.uneven_for.Goals as goal

pub returns-in-Half : goal.returns-in-Half
returns-in-Half c = c.uneven.ensures ∙ rw (c.in-Half.is, c.negates.ensures)

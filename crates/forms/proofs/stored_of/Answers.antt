-- `stored_of`: by the form.
use mathlib.Core.Path.{refl}
use native.Mathlib.Omega.{arith}
use Rattle.forms.proofs.stored_of.Goals as goal

pub returns-in-Half : goal.returns-in-Half
returns-in-Half c = (rw c.in-Half.is refl, omega arith)

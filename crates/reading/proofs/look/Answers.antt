-- `look`: no polynomial has more coefficients than the room that is asked with (Reading).
use mathlib.Core.Path.{◌∙◌}
use Rattle.widths.proofs.Digits.{bytes_each}
use Rattle.forms.proofs.Reading.{look_room}
use Rattle.reading.proofs.look.Goals as goal

pub returns : goal.returns
returns c =
    let known = c in
    let bs = known.args.bytes.now in
    c.check.ensures ∙ look_room _ bs (bytes_each bs (λ i. (known.type_inv.bytes i).fits))

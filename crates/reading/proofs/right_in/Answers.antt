-- `right_in`: the look at the width in the header and at what is stored (Reading).
use mathlib.Core.Path.{◌∙◌}
use native.Mathlib.Omega.{arith}
use Rattle.record.proofs.Headers.{right}
use Rattle.forms.proofs.Reading.{size_in_lem, seen_in}
use Rattle.reading.proofs.right_in.Goals as goal

pub width_in-requires : goal.width_in-requires
width_in-requires c = (right _ _ c.requires.0).long

pub stored_in-requires : goal.stored_in-requires
stored_in-requires c = (_, c.requires.0)

pub right_width-requires : goal.right_width-requires
right_width-requires c =
    let start = c in
    let wide = c.width_in.ensures in (
      rw wide (right _ _ start.requires.0).wide,
      omega (
        arith,
        size_in_lem start.args.form start.args.bytes.now _ _ wide c.stored_in.ensures.0,
        start.requires.1,
      ),
    )

pub returns : goal.returns
returns c =
    let stored = c in
    c.right_width.ensures ∙ seen_in _ _ _ _ stored.width_in.ensures stored.stored_in.ensures.0

-- `stands_in`: what is asked of the comparison is asked of the caller where the width is that of the height.
use Rattle.std.proofs.Common.{sym, ◌∙◌}
use Rattle.keeping.proofs.Comparing.{header}
use Rattle.keeping.proofs.same.stands_in.Goals as goal

pub width_in-w-requires : goal.width_in-w-requires
width_in-w-requires c = (header _ c.requires.read).long

pub differ_in-requires : goal.differ_in-requires
differ_in-requires c =
    let w = c.width_in-w.ensures in
    let fits = c.requires.fits (sym c.least_width.ensures ∙ c.if-least_width-w.true ∙ w) in
    rw w ((header _ c.requires.read).wide, fits.0, fits.1)

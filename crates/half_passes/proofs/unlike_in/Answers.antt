-- `unlike_in`: the numbers of both entries (Images).
use Rattle.std.proofs.Common.{◌∙◌, ap, ◌-◌}
use Rattle.definitions.specs.Steps.{entries}
use Rattle.widths.proofs.Least.{width_bounds}
use Rattle.half_passes.proofs.Images.{unlike_is}
use Rattle.half_passes.proofs.unlike_in.Goals as goal

pub returns : goal.returns
returns g c =
    let a = c.args in
    let cs = a.body.now in
    let there = c.number-other.ensures in
    unlike_is a.negate cs g.row.W a.i _ _ _ (width_bounds g.row.W there.0).0 c.requires.1 c.requires.0
    c.number.ensures.1 c.image_of.ensures
    (there.1 ∙ ap (λ n. entries cs (n - 1 - a.i)) c.len.ensures, there.2)

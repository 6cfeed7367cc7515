-- `times` meets its contract: the lower half, and its mirror (Mirroring).
use mathlib.Core.Path.{ap}
use Rattle.std.specs.Prelude.{is_ok}
use Rattle.exact_products.proofs.Lost.{not_ok}
use Rattle.next_factor.proofs.Mirroring.{lower-asked, lower-over, mirror_asks, mirror_makes}
use Rattle.next_factor.proofs.times.times.Goals as goal

pub times_lower-requires : goal.times_lower-requires
times_lower-requires c = let (asked, turns, room) = c.requires in (lower-asked asked turns, room)

pub returns-in_err-times_lower : goal.returns-in_err-times_lower
returns-in_err-times_lower c =
    let (asked, turns, _) = c.requires in
    rw (not_ok c.from_residual.result c.from_residual.ensures.0)
    (lower-over asked turns c.times_lower.ensures (ap is_ok c.in_err-times_lower.was))

pub mirror-requires : goal.mirror-requires
mirror-requires c =
    let (asked, turns, _) = c.requires in
    mirror_asks asked turns c.times_lower.ensures (ap is_ok c.in_ok-times_lower.was)

pub returns : goal.returns
returns c =
    let (asked, turns, _) = c.requires in
    mirror_makes asked turns c.times_lower.ensures (ap is_ok c.in_ok-times_lower.was) c.mirror.ensures

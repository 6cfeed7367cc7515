-- `turn_at`: what stands there, and the place after it.
use Rattle.browsing.specs.Browse.{turn_at}
use Rattle.browsing.proofs.turn_at.Goals as goal

pub returns : goal.returns
unfolding turn_at
returns c = rw (c.place_after.ensures, c.shown_at-shown.ensures)

-- `lookup`: the stretch of what was found.
use Rattle.shelves.proofs.lookup.Goals as goal

pub returns : goal.returns
returns c = record {
  held = rw (← c.find.ensures) c.held.ensures.held;
  lies = rw (← c.find.ensures) c.held.ensures.lies;
}

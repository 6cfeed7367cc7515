-- `Found::by`: each arm is a case of `found_by`.
use Rattle.shelves.specs.Lookup.{found_by}
use Rattle.shelves.proofs.Found.by.Goals as goal

pub returns-in-Match : goal.returns-in-Match
unfolding found_by
returns-in-Match c = rw (c.in-Match.is, c.between.ensures)

pub returns-in-Stopped : goal.returns-in-Stopped
unfolding found_by
returns-in-Stopped c = rw c.in-Stopped.is c.refused.ensures

pub returns-in-Ended : goal.returns-in-Ended
unfolding found_by
returns-in-Ended c = rw c.in-Ended.is c.without.ensures

-- `from`: each arm is a case of `told`.
use Rattle.browsing.specs.Browse.{told}
use Rattle.browsing.proofs.BrowsedFromShown.from.Goals as goal

pub returns-in-Record : goal.returns-in-Record
unfolding told
returns-in-Record c = rw (c.in-Record.is, c.between.ensures)

pub returns-in-Refused : goal.returns-in-Refused
unfolding told
returns-in-Refused c = rw c.in-Refused.is c.without_record.ensures

pub returns-in-End : goal.returns-in-End
unfolding told
returns-in-End c = rw c.in-End.is c.without_record-in-End.ensures

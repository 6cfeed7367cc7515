-- `place_after`: each arm is a case of `place_after`.
use Rattle.browsing.specs.Browse.{place_after}
use Rattle.browsing.proofs.place_after.Goals as goal

pub returns-in-Record : goal.returns-in-Record
unfolding place_after
returns-in-Record c = rw c.in-Record.is

pub returns-in-Refused : goal.returns-in-Refused
unfolding place_after
returns-in-Refused c = rw c.in-Refused.is

pub returns-in-End : goal.returns-in-End
unfolding place_after
returns-in-End c = rw c.in-End.is

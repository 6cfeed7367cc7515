-- `stretch_of`: each arm is a case of `start_of` and `length_of`.
use Rattle.browsing.specs.Browse.{start_of, length_of}
use Rattle.browsing.proofs.stretch_of.Goals as goal

pub returns-in-Record : goal.returns-in-Record
unfolding start_of length_of
returns-in-Record c = rw (c.in-Record.is, ← c.between.ensures) (c.part.ensures.part, c.part.ensures.lies)

pub returns-in-Refused : goal.returns-in-Refused
unfolding start_of length_of
returns-in-Refused c = rw c.in-Refused.is (c.part-in-Refused.ensures.part, c.part-in-Refused.ensures.lies)

pub returns-in-End : goal.returns-in-End
unfolding start_of length_of
returns-in-End c = rw c.in-End.is (c.part-in-End.ensures.part, c.part-in-End.ensures.lies)

-- `take_next` of a `Walk` meets its contract, by the laws of `Walking`.
use Rattle.divisors.proofs.Walking.{walk-room, walk-row, walk_done, walk-next}
use Rattle.divisors.proofs.Walk.take_next.Goals as goal

pub returns-then-self-eq0 : goal.returns-then-self-eq0
returns-then-self-eq0 c = walk_done _ c.requires c.if-self-eq0.true

pub shared_ref_as_front-least : goal.shared_ref_as_front-least
shared_ref_as_front-least c = walk-room _ c.requires

pub least-d-requires : goal.least-d-requires
least-d-requires c = walk-row _ c.requires

pub returns : goal.returns
returns c = walk-next _ c.requires _ _ c.if-self-eq0.false c.full.ensures c.least-d.ensures

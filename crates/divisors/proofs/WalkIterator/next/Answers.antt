-- `next` of a `Walk` as an iterator: what `take_next` hands back.
use Rattle.divisors.proofs.Walking.{walk_made}
use Rattle.divisors.proofs.WalkIterator.next.Goals as goal

pub returns-clause-goes : goal.returns-clause-goes
returns-clause-goes c = walk_made _ c.requires _ _ c.take_next-divisor.ensures

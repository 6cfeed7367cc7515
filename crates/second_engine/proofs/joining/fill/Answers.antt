-- `joining::fill` meets its contract: the mirror of the part.
use Rattle.second_engine.specs.Kinds.{kind_means}
use Rattle.second_engine.proofs.Filling.{part_inside, filled}
use Rattle.second_engine.proofs.joining.fill.Goals as goal

pub mirror-requires : goal.mirror-requires
mirror-requires c =
    let q = c in
    let (pos, small, size, room) = q.requires.m_nonzero in
    part_inside (kind_means q.args.kind) q.args.m q.args.from q.args.to q.args.b.now pos small size room
    q.requires.half_from

pub returns : goal.returns
returns c =
    let q = c in
    let (pos, small, size, room) = q.requires.m_nonzero in
    filled (kind_means q.args.kind) q.args.m q.args.from q.args.to q.args.b.now pos small size room q.requires.half_from
    (rw c.number.ensures at c.negates.ensures) c.mirror.ensures

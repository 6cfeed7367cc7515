-- `one`: the byte itself (Passes).
use native.Mathlib.Omega.{arith}
use Rattle.record.proofs.Passes.{got_one}
use Rattle.record.proofs.bytes.one.Goals as goal

pub returns : goal.returns
returns c =
    let start = c in
    got_one start.args.bytes.now start.args.at _ start.requires c.wide.ensures
    (omega (arith, c.wide.ensures, c.type_inv.bytes start.args.at))

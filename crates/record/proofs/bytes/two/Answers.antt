-- `two`: two halves (Passes).
use Rattle.record.proofs.Passes.{got_two}
use Rattle.record.proofs.bytes.two.Goals as goal

pub returns : goal.returns
returns c =
    let start = c in
    got_two 1 start.args.at start.args.bytes.now _ _ start.requires c.one.ensures
    c.one-2.ensures

-- `four`: two halves (Passes).
use Rattle.record.proofs.Passes.{got_two}
use Rattle.record.proofs.bytes.four.Goals as goal

pub returns : goal.returns
returns c =
    let start = c in
    got_two 2 start.args.at start.args.bytes.now _ _ start.requires c.two.ensures
    c.two-2.ensures

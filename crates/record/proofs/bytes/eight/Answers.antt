-- `eight`: two halves (Passes).
use Rattle.record.proofs.Passes.{got_two}
use Rattle.record.proofs.bytes.eight.Goals as goal

pub returns : goal.returns
returns c =
    let start = c in
    got_two 4 start.args.at start.args.bytes.now _ _ start.requires c.four.ensures
    c.four-2.ensures

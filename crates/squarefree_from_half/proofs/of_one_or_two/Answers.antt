-- `of_one_or_two` meets its contract: the first and the last coefficient are all (Even).
use mathlib.Core.Path.{◌∙◌, ap}
use Rattle.squarefree_from_half.proofs.Even.{tiny-whole, first-seen}
use Rattle.squarefree_from_half.proofs.of_one_or_two.Goals as goal

pub returns : goal.returns
returns c =
    let p = c in
    tiny-whole p.args.kind p.args.even p.args.a.now _ p.requires.1
    (ap Rattle.step_laws.specs.Machine.seen c.first_of-first.ensures
    ∙ first-seen p.args.kind p.args.even p.requires.0)

-- `write_zeros` meets its contract: what is cleared was told to be zeros (Outlining).
use mathlib.Core.Path.{◌∙◌, ap}
use native.Mathlib.Omega.{arith}
use borrow.Rule.Slice.PartMut.{mid_len}
use Rattle.definitions.specs.Requests.{zeros}
use Rattle.outlined_steps.proofs.Outlining.{zeros-told}
use Rattle.outlined_steps.proofs.write_zeros.Goals as goal

pub returns : goal.returns
returns c =
    let p = c in
    zeros-told p.args.told p.args.to p.args.a.now c.clear.new.a p.requires.0 p.requires.1
    (c.clear.ensures ∙ ap zeros (mid_len p.args.told p.args.to p.args.a.now (omega arith)))

-- `inverse_of_twice` meets its contract: the first copy in the first entries, and then the second (Growing).
use mathlib.Core.Path.{◌∙◌}
use native.Mathlib.Omega.{arith}
use lib.Seq.{length-take-le}
use Rattle.squarefree_from_half.proofs.Growing.{lower-front, copy-front}
use Rattle.squarefree_from_half.proofs.inverse_of_twice.Goals as goal

pub alternated-requires : goal.alternated-requires
alternated-requires c =
    let p = c in (
      lower-front 2 p.args.r p.args.top p.args.a.now (omega arith) p.requires.0,
      length-take-le p.args.top p.args.a.now (omega arith) ∙ p.requires.1,
    )

pub second_copy-requires : goal.second_copy-requires
second_copy-requires c =
    let p = c in
    copy-front p.args.r p.args.top p.args.a.now _ p.requires.0 p.requires.1 p.requires.2
    c.alternated.ensures

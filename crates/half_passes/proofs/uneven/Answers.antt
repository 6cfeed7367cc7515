-- `uneven`: what is found of the first half (Images).
use Rattle.std.proofs.Common.{◌∙◌, refl, length, rules}
use Rattle.half_passes.specs.Any.{other_at}
use Rattle.half_passes.proofs.Images.{uneven_all}
use Rattle.half_passes.proofs.uneven.Goals as goal

pub returns : goal.returns
returns c =
    let cs = c.args.coeffs.now in
    c.any_below.ensures (other_at c.args.negate cs (length cs)) (λ i r l p. search rules)
    ∙ uneven_all c.args.negate cs (length cs) refl

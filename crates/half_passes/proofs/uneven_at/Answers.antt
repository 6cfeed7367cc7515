-- `uneven_at`: what is found of the first half (Images).
use Rattle.std.proofs.Common.{◌∙◌, refl, length, rules}
use Rattle.half_passes.specs.Any.{other_at}
use Rattle.half_passes.proofs.Images.{uneven_all}
use Rattle.half_passes.proofs.uneven_at.Goals as goal

pub returns : goal.returns
returns g c =
    let cs = c.args.body.now in
    let p = other_at c.args.negate cs (length cs) in
    c.any_below.ensures p (λ i r l p. search rules)
    ∙ rw (c.len.ensures, c.len-2.ensures) (uneven_all c.args.negate cs (length cs) refl)

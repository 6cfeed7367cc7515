-- `mirrored` meets its contract: the mirrored entries are the polynomial's (Growing).
use Prim.Native.Nat.{◌+◌}
use mathlib.Core.Path.{◌∙◌, ap, refl}
use mathlib.Core.Bool.{not}
use native.Mathlib.Omega.{arith}
use lib.Dec.{eqb}
use Rattle.definitions.specs.Steps.{entries}
use Rattle.definitions.specs.Series.{firsts}
use Rattle.definitions.specs.Polynomials.{degree, polynomial}
use Rattle.step_laws.specs.Firsts.{firsts_same}
use Rattle.definitions.specs.Halves.{mirrored_up}
use Rattle.squarefree_from_half.proofs.Growing.{half-number, mirror_grows}
use Rattle.squarefree_from_half.proofs.mirrored.Goals as goal

pub mirror-requires : goal.mirror-requires
mirror-requires c =
    let p = c in
    λ i h. let b = half-number p.args.kind p.args.r in let m = rw p.requires.1 at h in
    rw (p.requires.0.half i (omega arith)) (p.requires.0.inside i (omega arith))

pub returns : goal.returns
returns c =
    let p = c in
    c.mirror.ensures
    ∙ ap (λ k. firsts k (mirrored_up (not (eqb p.args.kind 1)) k (entries p.args.a.now))) p.requires.1
    ∙ firsts_same (degree p.args.kind p.args.r + 1) _ (polynomial p.args.kind p.args.r)
    (mirror_grows p.args.kind p.args.r p.args.a.now p.requires.0 _ refl)

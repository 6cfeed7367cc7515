-- `alternated` meets its contract: the polynomial's entries, alternated (Growing).
use Prim.Native.Nat.{◌+◌}
use native.Mathlib.Omega.{arith}
use Rattle.definitions.specs.Polynomials.{degree, polynomial}
use Rattle.squarefree_from_half.proofs.Growing.{all_inside, front_entry, front_length, alternated}
use Rattle.squarefree_from_half.proofs.alternated.Goals as goal

pub alternate-requires : goal.alternate-requires
alternate-requires c =
    let p = c in
    let e = c.mirrored.ensures in
    λ i h.
    let b = front_length _ _ _ e in
    rw (front_entry (degree p.args.kind p.args.r + 1) (polynomial p.args.kind p.args.r) _ e i
    (omega arith)) (all_inside p.args.kind p.args.r p.args.a.now p.requires.0 i (omega arith))

pub returns : goal.returns
returns c =
    let p = c in
    alternated (degree p.args.kind p.args.r + 1) (polynomial p.args.kind p.args.r) _ _
    c.mirrored.ensures c.alternate.ensures

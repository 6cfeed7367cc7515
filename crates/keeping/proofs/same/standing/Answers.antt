-- `standing`: the lowest W bytes of the bits (Standing).
use Rattle.std.proofs.Common.{◌∙◌, ap, arith}
use mir.Syntax.{w64}
use mir.Val.{of_z}
use mir.Facts.{to_z-of_z}
use Rattle.widths.proofs.Least.{width_last}
use Rattle.keeping.proofs.Standing.{stands}
use Rattle.keeping.proofs.same.standing.Goals as goal

pub returns-in-1 : goal.returns-in-1
returns-in-1 g c =
    stands g.row.W 1 c.args.x c.requires.0 c.requires.1 c.in-1.is _ (c.bits_of-b.ensures ∙ ap (of_z w64) (to_z-of_z c.ranges.x))

pub returns-in-2 : goal.returns-in-2
returns-in-2 g c =
    stands g.row.W 2 c.args.x c.requires.0 c.requires.1 c.in-2.is _ (c.bits_of-b.ensures ∙ ap (of_z w64) (to_z-of_z c.ranges.x))

pub returns-in-4 : goal.returns-in-4
returns-in-4 g c =
    stands g.row.W 4 c.args.x c.requires.0 c.requires.1 c.in-4.is _ (c.bits_of-b.ensures ∙ ap (of_z w64) (to_z-of_z c.ranges.x))

pub returns-in_default : goal.returns-in_default
returns-in_default g c =
    let last = width_last g.row.W c.requires.0 (λ e. omega arith) (λ e. omega arith) (λ e. omega arith) in
    omega (
      arith,
      stands g.row.W 8 c.args.x c.requires.0 c.requires.1 last _ (c.bits_of-b.ensures ∙ ap (of_z w64) (to_z-of_z c.ranges.x)),
      c.bits_of-b.type_inv,
    )

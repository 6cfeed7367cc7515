-- `number_of`: entry i stands from 10 + i * w on (Places).
use Rattle.std.proofs.Common.{◌+◌, ◌*◌, ◌≤◌, ap, ◌∙◌, arith}
use Rattle.widths.specs.Numbers.{signed_of}
use Rattle.record.proofs.Passes.{room, entry_at}
use Rattle.half_passes.proofs.number_of.Goals as goal
use Rattle.half_passes.proofs.number_of.Goals.{Start}

-- the entry lies within the k
inside : (start : Start) → start.args.i * start.args.w + start.args.w ≤ start.args.k * start.args.w
inside start = room start.args.w start.args.k start.args.i start.requires.2

pub overflow_mul-i : goal.overflow_mul-i
overflow_mul-i c = omega (arith, inside (goal.at.overflow_mul-i c).Start)

pub overflow_add-i : goal.overflow_add-i
overflow_add-i c = omega (arith, inside (goal.at.overflow_add-i c).Start)

pub get-requires : goal.get-requires
get-requires c = (c.requires.0, omega (arith, inside (goal.at.get-requires c).Start))

pub returns : goal.returns
returns c =
    let start = c in
    let a = start.args in (
      ap (signed_of a.w) c.get.ensures.0 ∙ entry_at a.w a.k a.i a.bytes.now start.requires.2,
      c.get.ensures.1,
    )

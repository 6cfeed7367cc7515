-- `write_rows`: the rows below the height that is due stand in front of what stood behind (Turns).
use Rattle.std.proofs.Common.{◌+◌, ◌≤◌, length, arith}
use Rattle.counting.proofs.Turns.{turn-room, turn_tall, turn_less, wrote_start, wrote_again, wrote_all}
use Rattle.counting.proofs.passes.write_rows.Goals as goal
use Rattle.counting.proofs.passes.write_rows.Goals.{In-Some}

-- a row at hand has room
room : (c : In-Some) → c.loop-row.at + 3 ≤ length c.loop-row.rows
room c =
    omega (
      arith,
      turn-room _ _ _ c.loop-row.invariant.turn _ c.in-Some.ensures,
      c.requires.heights_in_bounds,
      c.loop-row.invariant.same,
    )

pub loop-row-init : goal.loop-row-init
loop-row-init c = wrote_start _ _

pub put_row-requires : goal.put_row-requires
put_row-requires c = room (goal.at.put_row-requires c).In-Some

pub overflow_add-due : goal.overflow_add-due
overflow_add-due c =
    record { fits = omega (arith, turn_tall _ _ c.requires.heights _ _ c.loop-row.invariant.turn _ c.in-Some.ensures) }

pub loop-row-smaller : goal.loop-row-smaller
loop-row-smaller c = turn_less _ _ _ c.loop-row.invariant.turn _ c.in-Some.ensures

pub loop-row-preserved : goal.loop-row-preserved
loop-row-preserved c =
    wrote_again _ _ _ _ _ c.loop-row.invariant _ c.in-Some.ensures (room (goal.at.loop-row-preserved c).In-Some) _
    c.put_row.ensures

pub returns : goal.returns
returns c = wrote_all _ _ _ _ _ c.loop-row.invariant c.in_default.ensures

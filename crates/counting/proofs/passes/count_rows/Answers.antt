-- `count_rows`: three numbers of the rows for each turn (Turns), and no more turns than heights.
use Rattle.std.proofs.Common.{◌≡◌, ◌+◌, ◌*◌, arith, sym}
use Rattle.counting.proofs.Turns.{turn-start, turn_again, turn-all, turn_tall, turn-few, turn_less}
use Rattle.counting.proofs.passes.count_rows.Goals as goal

pub loop-row-init : goal.loop-row-init
loop-row-init c = turn-start _

pub overflow_add-count : goal.overflow_add-count
overflow_add-count c = record { fits = omega (arith, turn-few _ _ c.requires _ _ c.loop-row.invariant) }

pub overflow_add-due : goal.overflow_add-due
overflow_add-due c =
    record { fits = omega (arith, turn_tall _ _ c.requires _ _ c.loop-row.invariant _ c.in-Some.ensures) }

pub loop-row-smaller : goal.loop-row-smaller
loop-row-smaller c = turn_less _ _ _ c.loop-row.invariant _ c.in-Some.ensures

pub loop-row-preserved : goal.loop-row-preserved
loop-row-preserved c =
    let more : 3 * c.loop-row.count + 3 ≡ 3 * (c.loop-row.count + 1) = omega arith in
    rw (sym more) (turn_again _ _ _ c.loop-row.invariant _ c.in-Some.ensures)

pub returns : goal.returns
returns c = turn-all _ _ _ c.loop-row.invariant c.in_default.ensures

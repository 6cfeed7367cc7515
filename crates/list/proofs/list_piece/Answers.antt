-- `list::list_piece` meets its contract, turn by turn (`Parts`).
use Rattle.std.proofs.Common.{◌≤◌, length, arith}
use Rattle.std.proofs.lemmas.Result.{err_from_is_err_and}
use Rattle.std.proofs.lemmas.Slice.{between_to_end}
use Rattle.list.proofs.Parts.{before_any, further, unwritten}
use Rattle.list.proofs.list_piece.Goals as goal

pub loop-rest-init : goal.loop-rest-init
loop-rest-init c = before_any _ _

pub returns-in_err-going : goal.returns-in_err-going
returns-in_err-going c =
    let p = err_from_is_err_and c.from_residual.result c.from_residual.ensures.1 in
    rw (p.1, p.2) (unwritten c.loop-rest.invariant _ c.in_err-going.ensures)

pub loop-rest-preserved : goal.loop-rest-preserved
loop-rest-preserved c =
    let taken = c.in_ok-going.going.taken in
    let rest = c.loop-rest.rest.now in
    let all : length rest ≤ length rest = omega arith in
    rw (between_to_end rest taken (length rest) all) (further c.loop-rest.invariant c.in_ok-going.ensures)

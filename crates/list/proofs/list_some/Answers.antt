-- `list::list_some` meets its contract, by what a run tells (`Ran`): what it made is what the bytes that it took print
-- (`flushed`), and it took something, since there is room for a line (`takes`).
use Rattle.std.proofs.Common.{◌≡◌, ℕ, ◌<◌, List, [], ◌∷◌, length, refl, ◌∙◌, not-suc-le-zero, length-take-le}
use Rattle.std.proofs.lemmas.Result.{err_from_is_err_and}
use Rattle.line_so_far.specs.declared.Line.{Line}
use Rattle.listing.specs.Stream.{printed}
use Rattle.listing.proofs.Streaming.{takes}
use Rattle.listing.proofs.Whole.{flushed}
use Rattle.list.specs.Handed.{handed}
use Rattle.list.specs.Went.{Reached}
use Rattle.list.proofs.list_some.Goals as goal
use Rattle.list.proofs.list_some.Goals.{After-run-p}

-- after some bytes it is not the heading that is handed over
no_heading : (line : Line) (taken : List ℕ) → 0 < length taken → printed line taken ≡ handed line taken
unfolding handed
no_heading line [] h = absurd (not-suc-le-zero h)
no_heading line (b ∷ bs) h = refl

reached : (c : After-run-p) → Reached c.args.line c.args.piece.now c.run-p.result.taken c.run-p.result.line
reached c =
    let ran = c.run-p.ensures in
    record { some = takes ran c.requires.in_bounds c.requires.piece_nonzero; within = ran.within; left = ran.left }

pub write_made-requires-clause-text_value : goal.write_made-requires-clause-text_value
write_made-requires-clause-text_value c =
    let ran = c.run-p.ensures in
    flushed ran ∙ no_heading _ _ (rw (length-take-le _ _ ran.within) (reached (goal.at.write_made-requires-clause-text_value c).After-run-p).some)

pub returns-in_err-write_made : goal.returns-in_err-write_made
returns-in_err-write_made c =
    let p = err_from_is_err_and c.from_residual.result c.from_residual.ensures.1 in
    rw (p.1, p.2, c.in_err-write_made.ensures) (c.run-p.result.taken, reached (goal.at.returns-in_err-write_made c).After-run-p)

pub returns : goal.returns
returns c = reached (goal.at.returns c).After-run-p

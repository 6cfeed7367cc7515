-- `shown_at`: each return by the tests that led there (Showing).
use mathlib.Core.Path.{sym, ◌∙◌, ap}
use native.Mathlib.Omega.{arith}
use Rattle.shelf.specs.Format.{look_code}
use Rattle.browsing.specs.Browse.{shown_of}
use Rattle.shelf.proofs.Alone.{tail}
use Rattle.browsing.proofs.Showing.{shown_end, shown_in, shown_refused}
use Rattle.browsing.proofs.shown_at.Goals as goal

pub returns-then-shelf-at : goal.returns-then-shelf-at
returns-then-shelf-at c = sym (shown_end _ _ c.if-shelf-at.true)

pub returns-then-code-ne-DONE : goal.returns-then-code-ne-DONE
returns-then-code-ne-DONE c =
    let start = c in
    sym (shown_refused start.args.shelf.now start.args.at (omega arith) _
    (c.look-code.ensures ∙ ap look_code (tail start.args.shelf.now start.args.at)) c.if-code-ne-DONE.true)

pub returns : goal.returns
returns c =
    let start = c in
    c.record_of.ensures ∙ ap (shown_of start.args.at) (tail start.args.shelf.now start.args.at)
    ∙ sym (shown_in start.args.shelf.now start.args.at (omega arith))

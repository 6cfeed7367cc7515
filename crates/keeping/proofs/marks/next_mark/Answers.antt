-- `next_mark`: the sixteens, and then the bytes one by one (Searching).
use Rattle.std.proofs.Common.{◌+◌, length-drop, arith}
use Rattle.shelf.proofs.Alone.{tail}
use Rattle.keeping.proofs.Searching.{unmarked_more, unmarked_behind}
use Rattle.keeping.proofs.marks.next_mark.Goals as goal

pub returns : goal.returns
returns c =
    let shelf = c.args.shelf.now in
    let at = c.past_sixteens-at.result in
    let (on, inside, none) = c.past_sixteens-at.ensures in
    let bytes = rw (tail shelf at) at c.past_bytes.ensures in (
      omega arith,
      omega (arith, bytes.0, inside, length-drop at shelf),
      unmarked_more shelf c.args.from at (at + c.past_bytes.result) none (unmarked_behind shelf at _ bytes.1),
    )

-- `past_sixteens`: one more of them, with none (Searching).
use Rattle.std.proofs.Common.{◌≡◌, ◌+◌, ◌-◌, drop, length-drop, arith}
use Rattle.keeping.proofs.Searching.{unmarked_more, unmarked_behind, unmarked_front}
use Rattle.keeping.proofs.marks.past_sixteens.Goals as goal

pub loop-at-preserved : goal.loop-at-preserved
loop-at-preserved c =
    let shelf = c.args.shelf.now in
    let at = c.loop-at.at in
    let sixteen : at + 16 - at ≡ 16 = omega arith in
    let none = rw sixteen at c.is_marked.ensures c.if-not-is_marked.true in (
      omega (arith, c.loop-at.invariant.0),
      omega arith,
      unmarked_more shelf c.args.from at (at + 16) c.loop-at.invariant.2
          (unmarked_behind shelf at 16 (unmarked_front (drop at shelf) 16 (omega (arith, length-drop at shelf)) none)),
    )

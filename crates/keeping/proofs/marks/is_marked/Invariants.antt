-- `is_marked`: none was found, so none starts among those before.
use Rattle.std.proofs.Common.{◌≡◌, false}
use Rattle.keeping.specs.Trying.{Unmarked}
use Rattle.keeping.proofs.marks.is_marked.Given as goal

abbrev pub invariant-loop-b : goal.invariant-loop-b
invariant-loop-b l = l.found ≡ false → Unmarked l.bytes 0 l.b-index

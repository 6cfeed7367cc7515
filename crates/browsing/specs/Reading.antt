-- A reader, which keeps a lent shelf together with its place: at first it is at the start; what it gives is what stands
-- at its place, and then its place is the one after.
use Rattle.std.specs.Prelude.{ℕ, List}
use Rattle.std.specs.Borrow.{Bor}
use Rattle.browsing.specs.declared.Turn.{Turn}
use Rattle.browsing.specs.declared.reader.Reader.{Reader}
use Rattle.browsing.specs.Browse.{turn_at}

abbrev pub opened : Bor (List ℕ) → Reader
opened shelf = record { shelf = shelf; at = 0 }

abbrev pub turn_of : Reader → Turn
turn_of r = turn_at r.shelf.now r.at

abbrev pub moved : Reader → Reader
moved r = record { shelf = r.shelf; at = (turn_of r).at }

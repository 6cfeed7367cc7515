-- `listing::stream::run_with` meets its contract. The loop's invariant is `Going` of `Streaming`, at the bytes taken.
use Rattle.listing.proofs.Streaming.{Going}
use Rattle.listing.proofs.stream.run_with.Given as goal

abbrev pub invariant-loop-i : goal.invariant-loop-i
invariant-loop-i l = Going l.initial.line l.piece l.initial.out l.out l.line l.i l.made

-- `accumulates::back::put_back` meets its contract, which is the loop's invariant: the places from x on are put
-- back.
use Prim.Native.Nat.{◌≤◌}
use Rattle.accumulates.specs.Stopped.{PutBack}
use Rattle.accumulates.proofs.back.put_back.Given as goal

abbrev pub invariant-loop-x : goal.invariant-loop-x
invariant-loop-x l = (l.from ≤ l.x) × PutBack l.d l.x l.to l.initial.a l.a

-- `fill`: what is left to store, stored from `i` on, gives all of it stored from 0 on (Passes).
use Rattle.std.proofs.Common.{◌≡◌, drop}
use Rattle.std.proofs.lemmas.List.Edits.{sets}
use Rattle.record.proofs.body.Body.fill.Given as goal

abbrev pub invariant-loop-i : goal.invariant-loop-i
invariant-loop-i g l = sets l.c-items l.i (drop l.i l.self) ≡ sets l.initial.c-items 0 l.self

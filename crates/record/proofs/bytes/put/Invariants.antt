-- `put`: what is left to store, stored from `i` on, gives the whole number stored from `at` on (Passes).
use Rattle.std.proofs.Common.{◌≡◌, ◌+◌, ◌-◌}
use Rattle.std.proofs.lemmas.List.Edits.{sets}
use Rattle.widths.specs.Numbers.{bytes_of}
use Rattle.record.proofs.bytes.put.Given as goal

abbrev pub invariant-loop-i : goal.invariant-loop-i
invariant-loop-i l =
    sets l.bytes l.i (bytes_of (l.at + l.w - l.i) l.rest) ≡ sets l.initial.bytes l.at (bytes_of l.w l.v)

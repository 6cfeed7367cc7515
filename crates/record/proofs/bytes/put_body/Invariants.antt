-- `put_body`: what is left to store, stored from entry i on, gives the whole body stored from 10 on (Passes).
use Rattle.std.proofs.Common.{◌≡◌, ◌+◌, ◌*◌, drop}
use Rattle.std.proofs.lemmas.List.Edits.{sets}
use Rattle.widths.specs.Numbers.{body}
use Rattle.record.proofs.bytes.put_body.Given as goal

abbrev pub invariant-loop-i : goal.invariant-loop-i
invariant-loop-i g l =
    let w = g.row.W in
    sets l.bytes (10 + l.i * w) (body w (drop l.i l.coeffs)) ≡ sets l.initial.bytes 10 (body w l.coeffs)

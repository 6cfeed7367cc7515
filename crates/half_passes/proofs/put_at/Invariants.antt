-- `put_at`: what is left to store, stored from entry i on, gives the whole other half stored (Places).
use Rattle.std.proofs.Common.{◌≡◌, ◌+◌, ◌*◌, drop}
use lib.Seq.{sets}
use Rattle.definitions.specs.Halves.{half_of, rebuilt}
use Rattle.widths.specs.Numbers.{body}
use Rattle.half_passes.proofs.put_at.Given as goal

abbrev pub invariant-loop-i : goal.invariant-loop-i
invariant-loop-i g l =
    let w = g.row.W in
    let whole = rebuilt l.negate l.count l.half in
    sets l.out (10 + l.i * w) (body w (drop l.i whole))
    ≡ sets l.initial.out (10 + half_of l.count * w) (body w (drop (half_of l.count) whole))

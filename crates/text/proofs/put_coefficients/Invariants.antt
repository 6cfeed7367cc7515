-- `text::put_coefficients` meets its contract. The loop's invariant: the first coefficients are written, in at most 22
-- bytes each.
use Rattle.std.proofs.Common.{◌+◌, ◌*◌, ◌≤◌, take}
use Rattle.text.specs.Text.{spaced}
use Rattle.text.specs.Puts.{Puts}
use Rattle.text.proofs.put_coefficients.Given as goal

abbrev pub invariant-loop-c : goal.invariant-loop-c
invariant-loop-c l =
    Puts (spaced (take l.c-index l.c-items)) l.at l.initial.out l.out l.p × (l.p ≤ l.at + 22 * l.c-index)

-- `digits::number_at` meets its contract. The loop's invariant: v is what the digits that are passed say.
use Rattle.std.proofs.Common.{◌≡◌, ◌^◌, ◌<◌, take}
use Rattle.digits.specs.Digits.{value_of}
use Rattle.digits.proofs.number_at.Given as goal

abbrev pub invariant-loop-b : goal.invariant-loop-b
invariant-loop-b l = (l.v ≡ value_of (take l.b-index l.b-items)) × (l.v < 10 ^ l.b-index)

-- `weight_of`: the weight of the entries passed, or the largest machine number.
use Prim.Native.Nat.{◌-◌, ◌^◌, min}
use mathlib.Core.Path.{◌≡◌}
use Rattle.definitions.specs.Steps.{entries}
use Rattle.light_sums.specs.Weight.{weight_to}
use Rattle.exact_products.proofs.weight_of.Given as goal

abbrev pub invariant-loop-x : goal.invariant-loop-x
invariant-loop-x l = l.w ≡ min (weight_to (entries l.f) l.x-index) (2 ^ 64 - 1)

-- `known_weight` meets its contract: so many terms, each within the bound (Known).
use Prim.Native.Nat.{◌+◌, ◌≤◌}
use native.Mathlib.Omega.{arith}
use native.Mathlib.Nat.{mul-le-mul, le-pred_of_lt}
use Rattle.next_factor.proofs.Known.{terms-most, weighed}
use Rattle.next_factor.proofs.weighing.known_weight.Goals as goal

pub overflow_add-result : goal.overflow_add-result
overflow_add-result c = record { fits = omega (arith, terms-most _ c.requires.0 _ c.requires.1) }

pub overflow_mul-result : goal.overflow_mul-result
overflow_mul-result c =
    let (_, small) = c.in-Some.ensures in
    let terms : c.args.parts.phi + 1 ≤ 65536 = omega (arith, terms-most _ c.requires.0 _ c.requires.1) in
    record { fits = omega (arith, mul-le-mul terms (le-pred_of_lt small)) }

pub returns-in-Some : goal.returns-in-Some
returns-in-Some c =
    let (most, _) = c.in-Some.ensures in weighed _ c.requires.0 _ c.requires.1 _ most

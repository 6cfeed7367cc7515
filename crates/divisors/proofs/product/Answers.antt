-- `product` meets its contract. The invariant: the product of the chosen among the first i.
use Prim.Native.Nat.{◌+◌, ◌*◌, ◌≤◌}
use mathlib.Core.Path.{◌≡◌, refl}
use native.Mathlib.Omega.{arith}
use Rattle.divisors.specs.Masks.{mask_to}
use Rattle.divisors.proofs.Searching.{mask-more}
use Rattle.divisors.proofs.product.Goals as goal
use Rattle.divisors.proofs.product.Goals.{After-chosen-size}

pub loop-i-init : goal.loop-i-init
unfolding mask_to
loop-i-init c = refl

-- the turn's step
turn :
    (c : After-chosen-size)
    → (c.loop-i.size * c.chosen-size.result ≡ mask_to c.args.primes.now c.args.mask (c.loop-i.i + 1))
    × (c.loop-i.size * c.chosen-size.result ≤ 65535)
turn c = mask-more _ _ c.requires _ _ _ _ c.loop-i-test.true c.loop-i.invariant c.chosen-size.ensures

pub overflow_mul-size : goal.overflow_mul-size
overflow_mul-size c = omega (arith, (turn (goal.at.overflow_mul-size c).After-chosen-size).1)

pub loop-i-preserved : goal.loop-i-preserved
loop-i-preserved c = (turn (goal.at.loop-i-preserved c).After-chosen-size).0

-- `least` meets its contract. The invariant: the least above `after` among r and what the masks below `mask` name.
use Prim.Native.Nat.{◌-◌, ◌^◌}
use mathlib.Core.Path.{◌≡◌}
use native.Mathlib.Omega.{arith}
use lib.ListN.{length}
use Rattle.divisors.proofs.Searching.{least_start, least_end}
use Rattle.divisors.proofs.least.Goals as goal

pub loop-mask-init : goal.loop-mask-init
loop-mask-init c = least_start _ _ c.requires.0 _ _ _ c.full-all.ensures c.requires.1 c.requires.2

pub returns : goal.returns
returns c =
    let end : c.loop-mask.mask ≡ 2 ^ length c.args.primes.now - 1 = omega (arith, c.full-all.ensures) in
    least_end _ _ c.requires.0 _ _ (rw end at c.loop-mask.invariant)

-- `alternate` meets its contract: an entry at an odd place is negated, and the next is left.
use Prim.Native.Nat.{ℕ, ◌+◌, ◌*◌, ◌%◌, ◌<◌, ◌≤◌, ◌^◌}
use mathlib.Core.Path.{◌≡◌, ap}
use mathlib.Core.List.{List}
use native.Mathlib.Omega.{arith}
use lib.ListN.{get_or, set, length}
use lib.IntN.{ℤ, pos, nat_abs, ◌-ℤ◌}
use lib.Signed.{mag}
use Rattle.definitions.specs.Integers.{0ℤ}
use Rattle.definitions.specs.Series.{Series, alternate}
use Rattle.definitions.specs.Steps.{entries, largest}
use Rattle.series.specs.Maps.{alternate_even}
use Rattle.step_laws.specs.Machine.{seen}
use Rattle.entry_steps.specs.Passes.{Split}
use Rattle.entry_steps.proofs.Split.{all_below, all_firsts}
use Rattle.shapes.proofs.Negation.{stored_minus}
use Rattle.shapes.proofs.Shaping.{starts, alternate_read, alternate-turn}
use Rattle.shapes.proofs.alternate.Goals as goal

pub loop-k-init : goal.loop-k-init
loop-k-init c =
    starts c.args.a.now 1 (λ k h. let e : k ≡ 0 = omega arith in alternate_even k (entries c.args.a.now) (omega arith))

module _ {n i : ℕ} {l : List ℤ} {e : Series} (s : Split l n i (alternate e) e) (odd : i % 2 ≡ 1) (b : i < n)
    (fits : mag (get_or l i 0ℤ) < 2 ^ 63) (small : nat_abs (e i) ≤ largest) where
  turned : Split (set l i (seen (pos 0 -ℤ seen (get_or l i 0ℤ)))) n (i + 2) (alternate e) e
  unfolding entries
  turned = alternate-turn e s odd b (ap (set l i) (stored_minus _ fits (rw (alternate_read e s odd b) small)))

pub loop-k-preserved : goal.loop-k-preserved
loop-k-preserved c =
    let i = 2 * c.loop-k.k + 1 in
    let odd : i % 2 ≡ 1 = omega arith in
    let inside : i < length c.args.a.now = omega (arith, c.loop-k-test.true) in
    let next : i + 2 ≡ 2 * (c.loop-k.k + 1) + 1 = omega arith in
    rw next at (turned c.loop-k.invariant odd inside (omega arith) (c.requires _ inside))

pub returns : goal.returns
returns c = all_firsts (all_below c.loop-k.invariant (omega (arith, c.loop-k-test.false)))

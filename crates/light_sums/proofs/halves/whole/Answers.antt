-- `halves::whole`: what the low part has above its low half is carried over to the high one.
use mathlib.Core.Path.{◌≡◌, refl, ◌∙◌, ap, ap₂}
use native.Mathlib.Omega.{arith}
use lib.IntN.{pos}
use mir.Facts.{to_z-of_z}
use Rattle.definitions.specs.Integers.{◌⊕◌, ◌⊗◌}
use Rattle.step_laws.specs.Machine.{seen, handed}
use Rattle.light_sums.specs.Parts.{half, rest, rest_below}
use Rattle.light_sums.specs.Told.{told}
use Rattle.light_sums.specs.Terms.{high_half, low_half}
use Rattle.light_sums.proofs.Joins.{shr_fits, rest_fits, carried}
use Rattle.light_sums.proofs.halves.whole.Goals as goal
use Rattle.light_sums.proofs.halves.whole.Goals.{After-high_half, After-low_half}

above : (c : After-high_half) → seen c.high_half.result ≡ high_half c.args.low
above c =
    let p = c in
    handed (shr_fits half p.args.low p.ranges.low) (c.high_half.ensures ∙ ap high_half (to_z-of_z p.ranges.low))

pub plus-requires : goal.plus-requires
plus-requires c = rw (above (goal.at.plus-requires c).After-high_half, to_z-of_z c.ranges.high) c.requires

low : (c : After-low_half) → seen c.low_half.result ≡ pos (rest half c.args.low)
unfolding low_half
low c =
    let p = c in
    handed (rest_fits half 2147483648 refl (omega arith) p.args.low)
    (c.low_half.ensures ∙ ap low_half (to_z-of_z p.ranges.low))

pub joined-requires : goal.joined-requires
joined-requires c =
    let v = c.args.low in
    record {
      m = half;
      k = 2147483648;
      is = refl;
      whole = refl;
      rest = record {
        size = rest half v;
        below = rest_below half (omega arith) v;
        is = low (goal.at.joined-requires c).After-low_half;
      };
    }

pub returns : goal.returns
returns c =
    let p = c in
    let sum : seen c.plus.result ≡ p.args.high ⊕ high_half p.args.low =
    handed p.requires
    (c.plus.ensures ∙ ap₂ ◌⊕◌ (to_z-of_z p.ranges.high) (above (goal.at.returns c).After-high_half)) in
    c.joined.ensures
    ∙ ap told (ap₂ (λ a b. a ⊗ pos half ⊕ b) sum (low (goal.at.returns c).After-low_half)
    ∙ carried half 2147483648 refl (omega arith) p.args.high p.args.low)

-- `halves::low_half`: what is left of v without its high half.
use mathlib.Core.Path.{◌≡◌, refl, ◌∙◌, ap}
use native.Mathlib.Omega.{arith}
use mir.Facts.{to_z-of_z}
use Rattle.light_sums.specs.Parts.{half}
use Rattle.light_sums.specs.Terms.{high_half, low_half}
use Rattle.light_sums.proofs.Joins.{rest_asks, rest-seen}
use Rattle.light_sums.proofs.halves.low_half.Goals as goal
use Rattle.light_sums.proofs.halves.low_half.Goals.{After-high_half}

above : (c : After-high_half) → c.high_half.result ≡ high_half c.args.v
above c = c.high_half.ensures ∙ ap high_half (to_z-of_z c.ranges.v)

pub less_product-requires : goal.less_product-requires
less_product-requires c =
    let p = c in
    rest_asks half 2147483648 refl (omega arith) p.args.v c.high_half.result p.ranges.v (above (goal.at.less_product-requires c).After-high_half)

pub returns : goal.returns
unfolding low_half
returns c =
    let p = c in
    rest-seen half 2147483648 refl (omega arith) p.args.v c.high_half.result p.ranges.v
    (above (goal.at.returns c).After-high_half) c.less_product.result c.less_product.ensures

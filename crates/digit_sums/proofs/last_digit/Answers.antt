-- `last_digit`: what is left of v without what is above its last digit.
use mathlib.Core.Path.{◌≡◌, refl, ◌∙◌, ap}
use native.Mathlib.Omega.{arith}
use lib.Signed.{shr_z}
use mir.Facts.{to_z-of_z}
use Rattle.light_sums.specs.Parts.{base}
use Rattle.light_sums.proofs.Joins.{rest_asks, rest-seen}
use Rattle.digit_sums.proofs.last_digit.Goals as goal
use Rattle.digit_sums.proofs.last_digit.Goals.{After-above_digit}

above : (c : After-above_digit) → c.above_digit.result ≡ shr_z c.args.v base
above c = c.above_digit.ensures ∙ ap (λ n. shr_z n base) (to_z-of_z c.ranges.v)

pub less_product-requires : goal.less_product-requires
less_product-requires c =
    let p = c in
    rest_asks base 2199023255552 refl (omega arith) p.args.v c.above_digit.result p.ranges.v (above (goal.at.less_product-requires c).After-above_digit)

pub returns : goal.returns
returns c =
    let p = c in
    rest-seen base 2199023255552 refl (omega arith) p.args.v c.above_digit.result p.ranges.v
    (above (goal.at.returns c).After-above_digit) c.less_product.result c.less_product.ensures

-- `light::add_term`: one term more, in both sums (Lights). Each entry that is read fits, so its half is no larger than
-- 2^32.
use native.Mathlib.Omega.{arith}
use Rattle.light_sums.specs.Light.{half_of}
use Rattle.light_sums.proofs.Lights.{term_asks, term_more}
use Rattle.light_sums.proofs.light.add_term.Goals as goal

pub add_product-requires : goal.add_product-requires
unfolding half_of
add_product-requires c =
    let (light, so_far) = c.requires.f_bound in
    term_asks light so_far.high (record { sfits = omega arith }) (record { sfits = omega arith }) c.high_half.ensures

pub add_product-requires-2 : goal.add_product-requires-2
unfolding half_of
add_product-requires-2 c =
    let (light, so_far) = c.requires.f_bound in
    term_asks light so_far.low (record { sfits = omega arith }) (record { sfits = omega arith }) c.low_half.ensures

pub returns : goal.returns
unfolding half_of
returns c =
    let (light, so_far) = c.requires.f_bound in
    record {
      high = term_more light so_far.high (record { sfits = omega arith }) (record { sfits = omega arith })
          c.high_half.ensures c.add_product.ensures;
      low = term_more light so_far.low (record { sfits = omega arith }) (record { sfits = omega arith })
          c.low_half.ensures c.add_product-2.ensures;
    }

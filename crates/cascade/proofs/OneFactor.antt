-- A list of one index: its product is F(n) itself, with F(n)'s degree and coefficients, and never out of range.
use Prim.Native.Nat.{ℕ, suc, ◌<◌, ◌≤◌}
use mathlib.Core.Path.{◌≡◌, ap₂}
use mathlib.Core.Bool.{true, false}
use mathlib.Core.List.{[], ◌∷◌}
use native.Mathlib.Omega.{arith}
use native.Mathlib.Nat as NatL
use borrow.Author.Tests.{le-leb}
use lib.IntN.{nat_abs}
use Rattle.definitions.specs.Series.{firsts}
use Rattle.definitions.specs.Polynomials.{F, polynomial, degree}
use Rattle.definitions.specs.Steps.{in_range, largest}
use Rattle.definitions.specs.KeptHalf.{product_of, sum_of}
use Rattle.definitions.specs.Requests.{good_index}
use Rattle.definitions.specs.Answer.{coefficients, gain}
use Rattle.definitions.specs.Cascades.{product, total_degree, product_coefficients, product_over}
use Rattle.series.specs.Laws.{·_one}
use Rattle.step_laws.specs.Outside.{inside_all}
use Rattle.step_laws.specs.Signed.{in_range_lem}
use Rattle.cyclotomic.specs.Heights.{at_most-height}
use Rattle.index.proofs.Laws.{index_good}
use Rattle.next_factor.proofs.Delivered.{height_fits, gain-whole}

module _ (n : ℕ) where
  pub one-degree : total_degree (n ∷ []) ≡ degree 1 n
  unfolding total_degree sum_of degree
  one-degree = omega arith

  pub one_product : product (n ∷ []) ≡ F n
  unfolding product product_of
  one_product = ·_one (F n)

  pub one-coefficients : product_coefficients (n ∷ []) ≡ coefficients 1 n
  unfolding product_coefficients coefficients polynomial
  one-coefficients = ap₂ (λ d f. firsts (suc d) f) one-degree one_product

-- the gain is small
module _ (n : ℕ) (good : good_index n ≡ true) where
  small_gain : in_range largest (gain 1 n) ≡ true
  small_gain =
      let (k, e, l) = gain-whole n good in in_range_lem largest (gain 1 n) (rw e (omega arith))

  -- so F(n) alone is never out of range
  one_inside : (i : ℕ) → 0 ≤ i → i < suc (total_degree (n ∷ [])) → in_range largest (product (n ∷ []) i) ≡ true
  unfolding in_range polynomial
  one_inside i a b =
      rw (one_product n)
      (le-leb (nat_abs (F n i)) largest
      (NatL.le_trans (at_most-height 1 n (index_good n good).0 i) (height_fits n good)))

  pub one_fine : product_over (n ∷ []) ≡ false
  unfolding product_over gain
  one_fine =
      let inside = inside_all largest 0 (product (n ∷ [])) (suc (total_degree (n ∷ []))) one_inside in
      rw (inside, one-coefficients n, small_gain)

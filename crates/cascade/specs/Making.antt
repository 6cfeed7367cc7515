-- The making of a product, as the inner functions' contracts tell it.
use Rattle.std.specs.Prelude.{ℕ, suc, ◌<◌, ◌≤◌, ◌≡◌, true, false, cond, ◌||◌, List, length, eqb, ltb, ℤ, pos, Result, is_err, IfOk}
use Rattle.definitions.specs.Codes.{DONE, OVER, TALL}
use Rattle.definitions.specs.Steps.{largest}
use Rattle.definitions.specs.Requests.{zeros}
use Rattle.definitions.specs.Answer.{height_of, peak_of, gain_of}
use Rattle.definitions.specs.Cascades.{total_degree, product_coefficients, longest, all_good, firsts_over, cascade_over}
use Rattle.exact_products.specs.declared.Over.{Over}
use Rattle.next_factor.specs.declared.SoFar.{SoFar}

-- the list and the limit are good
pub record Ready (ns : List ℕ) (h : ℕ) : Type 0 where
  pub few : (eqb (length ns) 0 || ltb 8 (length ns)) ≡ false
  pub good : all_good ns ≡ true
  pub short : ltb 65535 (total_degree ns) ≡ false
  pub limit : 1 ≤ h

-- each index is good, the entries are those that the product needs, and the longest factor has room
pub record Roomy (ns : List ℕ) (b scratch : List ℤ) : Type 0 where
  pub good : all_good ns ≡ true
  pub room : length b ≡ suc (total_degree ns)
  pub factor : longest ns < length scratch

-- the product of all stands in m
pub record ProductOf (ns : List ℕ) (m : List ℤ) (r : SoFar) : Type 0 where
  pub leaves : m ≡ product_coefficients ns
  pub height : r.height ≡ height_of (product_coefficients ns)
  pub peak : r.peak ≡ peak_of (product_coefficients ns)
  pub gain : pos r.gain ≡ gain_of (product_coefficients ns)
  pub small : r.gain ≤ largest

-- the product of some first factors is out of range, or that of all stands in m
pub record ProductIs (ns : List ℕ) (m : List ℤ) (r : Result SoFar Over) : Type 0 where
  pub over : is_err r ≡ firsts_over (length ns) ns
  pub len : length m ≡ suc (total_degree ns)
  pub product : IfOk r (ProductOf ns m)

-- OVER, then TALL
unfoldable pub making_code : List ℕ → ℕ → ℕ
making_code ns h = cond (cascade_over ns) OVER (cond (ltb h (height_of (product_coefficients ns))) TALL DONE)

-- what then stands in the product's entries
unfoldable pub laid : List ℕ → ℕ → List ℤ
laid ns code = cond (eqb code DONE) (product_coefficients ns) (zeros (suc (total_degree ns)))

-- The lower half of the polynomial of r stands in the first D + 1 entries, each of which can be negated.
use Rattle.std.specs.Prelude.{ℕ, ◌+◌, ◌<◌, ◌≤◌, ◌≡◌, ◌≢◌, List, ℤ, nat_abs, length}
use Rattle.definitions.specs.Polynomials.{polynomial, degree}
use Rattle.definitions.specs.Series.{alternate}
use Rattle.definitions.specs.KeptHalf.{half_degree}
use Rattle.definitions.specs.Steps.{entries, largest}
use Rattle.numbers.specs.Apart.{OddSquarefree}

pub record Lower (kind r : ℕ) (l : List ℤ) : Type 0 where
  pub squarefree : OddSquarefree r
  pub above : r ≢ 1
  pub half : (i : ℕ) → i < half_degree kind r + 1 → entries l i ≡ polynomial kind r i
  pub inside : (i : ℕ) → i < half_degree kind r + 1 → nat_abs (polynomial kind r i) ≤ largest

-- the first copy of I(2r) stands in the first `top` entries, which is the number of coefficients of I(r), and there is
-- room for the second
pub record FirstCopy (r top : ℕ) (l : List ℤ) : Type 0 where
  pub squarefree : OddSquarefree r
  pub above : r ≢ 1
  pub number : top ≡ degree 2 r + 1
  pub copy : (i : ℕ) → i < top → entries l i ≡ alternate (polynomial 2 r) i
  pub inside : (i : ℕ) → i < top → nat_abs (polynomial 2 r i) ≤ largest
  pub len : length l ≡ r + top

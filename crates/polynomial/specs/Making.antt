-- The making of a polynomial, as the inner functions' contracts tell it: the polynomial is left, and told are its
-- additions, its height and its peak; or it is refused, and zeros are left.
use Rattle.std.specs.Prelude.{ℕ, suc, ◌≡◌, cond, List, ltb, ℤ, Option, Some, None, Result, Ok, Err}
use Rattle.definitions.specs.Numbers.{r_of}
use Rattle.definitions.specs.Polynomials.{degree}
use Rattle.definitions.specs.Requests.{divisors_due, over_among, zeros}
use Rattle.definitions.specs.Answer.{coefficients, height, peak, additions_for}
use Rattle.answers.specs.declared.Refusal.{Refusal}
use Rattle.answers.specs.declared.Refusal.TheVariants as R
use Rattle.polynomial.specs.declared.making.Made.{Made}

-- why it is refused: OVER, then TALL
unfoldable pub refusal_of : ℕ → ℕ → ℕ → ℕ → Option Refusal
refusal_of kind n h w = cond (over_among w kind (r_of n) (divisors_due (r_of n))) (Some R.Over)
    (cond (ltb h (height kind n)) (Some R.Tall) None)

abbrev pub MadeIs : (kind n h w : ℕ) → List ℤ → Result Made Refusal → Type 0
MadeIs kind n h w m (Ok made) =
    (refusal_of kind n h w ≡ None) × (m ≡ coefficients kind n)
    × (made ≡ record { additions = additions_for kind n; height = height kind n; peak = peak kind n })
MadeIs kind n h w m (Err refusal) = (refusal_of kind n h w ≡ Some refusal) × (m ≡ zeros (suc (degree kind n)))

-- What laying out comes to: the polynomial is left, and told are its height and its peak; or it is taller than h, and
-- zeros are left.
use Rattle.std.specs.Prelude.{ℕ, suc, ◌≡◌, ◌<◌, ◌≤◌, List, ℤ, Result, Ok, Err}
use Rattle.definitions.specs.Polynomials.{degree}
use Rattle.definitions.specs.Requests.{zeros}
use Rattle.definitions.specs.Answer.{coefficients, height, peak}
use Rattle.laying_out.specs.declared.Laid.{Laid}
use Rattle.laying_out.specs.declared.Tall.{Tall}

abbrev pub LaidIs : (kind n h : ℕ) → List ℤ → Result Laid Tall → Type 0
LaidIs kind n h m (Ok laid) =
    (height kind n ≤ h) × (m ≡ coefficients kind n) × (laid ≡ record { height = height kind n; peak = peak kind n })
LaidIs kind n h m (Err _) = (h < height kind n) × (m ≡ zeros (suc (degree kind n)))

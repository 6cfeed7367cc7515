-- The value that a step makes of two entries: how large it is, that of two small numbers it is a machine number, and
-- what a test of it tells where both were read.
use mathlib.Core.Path.{◌≡◌, sym, ◌∙◌, ap}
use mathlib.Core.Bool.{Bool, true}
use native.Mathlib.Omega.{arith}
use Prim.Native.Nat.{◌+◌, ◌≤◌}
use Prim.Native.Nat.{ℕ}
use lib.IntN.{ℤ, nat_abs}
use mir.Syntax.{w64}
use mir.Val.{SFits}
use Rattle.definitions.specs.Steps.{Sort, comb, accumulate, in_range, largest}
use Rattle.step_laws.specs.Machine.{seen, seen_both, range_fits}
use Rattle.step_laws.specs.Signed.{abs_⊕, abs_⊝, in_range_lem}
use Rattle.step_laws.specs.WorkingLimit.{Workable, range_more}
use Rattle.entry_steps.specs.Passes.{addable, new_value}

most : (s : Sort) (x y : ℤ) → nat_abs (new_value s x y) ≤ nat_abs x + nat_abs y
most comb x y = abs_⊝ x y
most accumulate x y = abs_⊕ x y

pub small_in_range : (s : Sort) (x y : ℤ) → nat_abs x ≤ addable → nat_abs y ≤ addable
    → in_range largest (new_value s x y) ≡ true
small_in_range s x y hx hy = in_range_lem largest (new_value s x y) (omega (arith, most s x y))

pub told : {x y : ℤ} → SFits w64 x → SFits w64 y → (s : Sort) (w : ℕ) {r b : Bool}
    → r ≡ in_range w (new_value s (seen x) (seen y)) → r ≡ b → b ≡ in_range w (new_value s x y)
told fx fy s w e t = sym t ∙ e ∙ ap (in_range w) (seen_both fx fy (new_value s))

-- a value that is within a working limit fits
pub value_fits : {w : ℕ} → Workable w → (v : ℤ) → true ≡ in_range w v → SFits w64 v
value_fits work v e = range_fits v (range_more work.1 v (sym e))

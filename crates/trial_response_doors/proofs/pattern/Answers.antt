-- `trial_response_doors::pattern` is safe: what does not differ from itself is a number, or an infinity.
use mathlib.Core.Path.{◌≡◌, sym, ◌∙◌}
use mathlib.Core.Bool.{false, not, true≢false}
use borrow.Author.Rules.{rules}
use lib.Dec.{T}
use lib.Ieee.{Float, nan, inf, fin, is_nan, ne}
use lib.Ieee.Compare.{nan_differs}
use Rattle.trial_response_doors.proofs.pattern.Goals as goal

some_number : (x : Float) → ne x x ≡ false → T (not (is_nan x))
unfolding is_nan
some_number nan h = absurd (true≢false (sym nan_differs ∙ h))
some_number (inf s) h = tt
some_number (fin s m e) h = tt

pub float_to_bits-result : goal.float_to_bits-result
float_to_bits-result c = some_number c.args.x c.if-x.false

-- `digit`: by the digit's place.
use mathlib.Core.Path.{◌≡◌, ◌∙◌, ap}
use lib.IntN.{ℤ, pos}
use lib.Signed.{shr_z}
use mir.Syntax.{w64}
use mir.Val.{SFits}
use mir.Facts.{to_z-of_z}
use Rattle.step_laws.specs.Machine.{seen, handed}
use Rattle.light_sums.specs.Parts.{base, rest}
use Rattle.digit_sums.specs.Digits.{digit_of}
use Rattle.light_sums.proofs.Joins.{shr_fits}
use Rattle.digit_sums.proofs.DigitSums.{digit_handed, no_digit}
use native.Mathlib.Omega.{arith}
use Rattle.digit_sums.proofs.digit.Goals as goal

-- what is above the last digit, as it was answered
above-seen : (v : ℤ) {r : ℤ} → SFits w64 v → r ≡ shr_z (seen v) base → seen r ≡ shr_z v base
above-seen v f e = handed (shr_fits base v f) (e ∙ ap (λ n. shr_z n base) (to_z-of_z f))

pub returns-in-0 : goal.returns-in-0
unfolding digit_of
returns-in-0 c =
    digit_handed c.args.a 0 c.args.v c.ranges.v c.in-0.is
    (c.last_digit.ensures ∙ ap (λ n. pos (rest base n)) (to_z-of_z c.ranges.v))

pub returns-in-1 : goal.returns-in-1
unfolding digit_of
returns-in-1 c =
    digit_handed c.args.a 1 c.args.v c.ranges.v c.in-1.is
    (c.last_digit-in-1.ensures
    ∙ ap (λ n. pos (rest base n)) (above-seen c.args.v c.ranges.v c.above_digit.ensures))

pub returns-in-2 : goal.returns-in-2
unfolding digit_of
returns-in-2 c =
    digit_handed c.args.a 2 c.args.v c.ranges.v c.in-2.is
    (c.above_digit-in-2-2.ensures
    ∙ ap (λ n. shr_z n base) (above-seen c.args.v c.ranges.v c.above_digit-in-2.ensures))

pub returns-in_default : goal.returns-in_default
returns-in_default c = no_digit _ _ (omega arith) (omega arith) (omega arith)

-- A notch is a point where a polynomial is 0. Where its whole-number value at 1, i, -1 or -i is 0, so is the response
-- there (`notch_exact`). Those of F(n) among them are 1 for n = 1, -1 for n = 2, and i and -i for n = 4 (`notches`).
use Rattle.std.specs.Prelude.{◌≡◌, refl, Bool, List, [], ◌∷◌, ℕ, zero, suc, ◌≤◌, ℤ, pos, negsuc}
use Rattle.std.proofs.Common.{ap, arith}
use Rattle.definitions.specs.Integers.{◌⊕◌, ◌⊗◌, ⊖}
use Rattle.definitions.specs.Answer.{coefficients}
use Rattle.cyclotomic.specs.Worked.{Worked, worked, made, worked-right}
use Rattle.light_sums.specs.Weight.{weight}
use Rattle.whole_floats.specs.Holds.{most}
use Rattle.exact_response.specs.Points.{Quarter, one, i, minusOne, minusI}
use Rattle.exact_response.specs.Points.{whole_at, times_and, whole_value}
use Rattle.exact_response.specs.Notches.{nought, NotchAt, order}
use Rattle.exact_response.proofs.Exact.{zero_is, response_exact}

pub notch_exact : (cs : List ℤ) (q : Quarter) (s : Bool) → weight cs ≤ most → whole_value cs (whole_at q) ≡ nought
    → NotchAt cs q s
notch_exact cs q s l e =
    let exact = response_exact cs q s l in
    record { done = exact.done; real = rw (e, zero_is) at exact.real; imag = rw (e, zero_is) at exact.imag }

printed : ℕ → List Worked → List ℤ
printed k [] = []
printed zero (w ∷ ws) = w.printed
printed (suc k) (w ∷ ws) = printed k ws

F_1 : coefficients 1 1 ≡ negsuc 0 ∷ pos 1 ∷ []
unfolding worked made printed
F_1 = ap (printed 0) worked-right

F_2 : coefficients 1 2 ≡ pos 1 ∷ pos 1 ∷ []
unfolding worked made printed
F_2 = ap (printed 1) worked-right

F_4 : coefficients 1 4 ≡ pos 1 ∷ pos 0 ∷ pos 1 ∷ []
unfolding worked made printed
F_4 = ap (printed 3) worked-right

pub notches : (q : Quarter) (s : Bool) → NotchAt (coefficients 1 (order q)) q s
unfolding weight whole_value whole_at times_and ◌⊕◌ ◌⊗◌ ⊖
notches one s = rw F_1 (notch_exact (negsuc 0 ∷ pos 1 ∷ []) one s (omega arith) refl)
notches i s = rw F_4 (notch_exact (pos 1 ∷ pos 0 ∷ pos 1 ∷ []) i s (omega arith) refl)
notches minusOne s = rw F_2 (notch_exact (pos 1 ∷ pos 1 ∷ []) minusOne s (omega arith) refl)
notches minusI s = rw F_4 (notch_exact (pos 1 ∷ pos 0 ∷ pos 1 ∷ []) minusI s (omega arith) refl)

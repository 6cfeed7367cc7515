-- The theorems between the requests: after all divisors the partial request shows the lower half of what the full
-- request for r delivers (`same-lower-half`); the additions reported are demand 3's sum and within 2^k (D + 1)
-- (`additions-within`); the height, the peak and the gain told are those of the entries that are left
-- (`told-of-entries`); and no coefficient delivered is larger in magnitude than the working limit (`within_limit`), so
-- none is -2^63 (`can_be_negated`).
use Prim.Native.Nat.{ℕ, zero, suc, ◌+◌, ◌*◌, ◌^◌, ◌<◌, ◌≤◌}
use mathlib.Core.Path.{◌≡◌, refl, sym, ◌∙◌, ap}
use mathlib.Core.Bool.{false, cond}
use mathlib.Core.Logic.{◌≢◌}
use mathlib.Core.List.{List, ◌∷◌}
use native.Mathlib.Omega.{arith}
use native.Mathlib.Nat as NatL
use lib.ListN.{length, take, drop}
use lib.Seq.{take-append-le}
use lib.Dec.{eqb}
use lib.IntN.{ℤ, nat_abs}
use Rattle.definitions.specs.Codes.{DONE}
use Rattle.definitions.specs.Series.{Series, tail, firsts}
use Rattle.definitions.specs.Numbers.{r_of, k_of}
use Rattle.definitions.specs.Polynomials.{polynomial, degree}
use Rattle.definitions.specs.Steps.{largest, below_one}
use Rattle.definitions.specs.KeptHalf.{half_degree, kept_half, additions}
use Rattle.definitions.specs.Requests.{divisors_due, over_among, written}
use Rattle.definitions.specs.Answer.{coefficients, height_of, height, peak_of, peak, gain_of, gain, additions_for}
use Rattle.numbers.specs.Apart.{r_odd_squarefree}
use Rattle.numbers.specs.HowMany.{k_of-r}
use Rattle.numbers.specs.Below.{additions_at_most}
use Rattle.step_laws.specs.Firsts.{length-firsts}
use Rattle.step_laws.specs.WorkingLimit.{good_limit}
use Rattle.cyclotomic.specs.Kept.{kept-all}
use Rattle.cyclotomic.specs.Heights.{at_most-height}
use Rattle.cyclotomic.specs.Inside.{height_inside}
use Rattle.answers.specs.Partial as Partial
use Rattle.answers.specs.Polynomial as Polynomial
use Rattle.answers.proofs.WorkingLimit.{polynomial_done}
use Rattle.kept_half.proofs.Turning.{kept-length}
use Rattle.squarefree_from_half.proofs.Growing.{half_within}

-- ---- what stands in front
written-front : (new l : List ℤ) (k : ℕ) → k ≤ length new → take k (written new l) ≡ take k new
unfolding written
written-front new l k h = take-append-le k new (drop (length new) l) h

firsts-front : (k n : ℕ) (f : Series) → k ≤ n → take k (firsts n f) ≡ firsts k f
unfolding firsts
firsts-front zero n f h = refl
firsts-front (suc k) zero f h = absurd (NatL.not-suc-le-zero h)
firsts-front (suc k) (suc n) f h = ap (λ l. f zero ∷ l) (firsts-front k n (tail f) (NatL.le_of_suc-le-suc h))

-- the partial request for n after all of r's divisors, and the full request for the index r: entries 0 to D are the
-- same
pub same-lower-half :
    (kind n : ℕ) (h w w' : ℤ) (l m : List ℤ) → r_of n ≢ 1
    → Partial.code kind n (divisors_due (r_of n)) w (length l) ≡ DONE
    → Polynomial.code kind (r_of n) h w' (length m) ≡ DONE
    → take (half_degree kind (r_of n) + 1) (Partial.leaves kind n (divisors_due (r_of n)) w l)
    ≡ take (half_degree kind (r_of n) + 1) (Polynomial.leaves kind (r_of n) h w' m)
unfolding Partial.leaves Partial.left Polynomial.leaves Polynomial.left divisors_due coefficients
same-lower-half kind n h w w' l m above p q =
    ap (λ c. take D (Partial.left kind n (divisors_due (r_of n)) c l)) p
    ∙ written-front (kept_half kind (r_of n) (divisors_due (r_of n))) l D
    (NatL.le_of_eq (sym (kept-length kind (r_of n) (divisors_due (r_of n)))))
    ∙ ap (take D) (kept-all kind (r_of n) (r_odd_squarefree n) above)
    ∙ firsts-front D D (polynomial kind (r_of n)) (NatL.le_refl D)
    ∙ sym
    (ap (λ c. take D (Polynomial.left kind (r_of n) c m)) q
    ∙ written-front (coefficients kind (r_of n)) m D
    (omega (arith, length-firsts (suc (degree kind (r_of n))) (polynomial kind (r_of n)), half_within kind (r_of n)))
    ∙ firsts-front D (suc (degree kind (r_of n))) (polynomial kind (r_of n)) (omega (arith, half_within kind (r_of n))))
  where
    D : ℕ
    D = half_degree kind (r_of n) + 1

-- ---- the additions reported
pub additions-within :
    (kind n : ℕ) (h w : ℤ) (room : ℕ) → 0 < n → Polynomial.code kind n h w room ≡ DONE
    → ((Polynomial.answer kind n h w room).additions ≡ additions kind (r_of n))
    × ((Polynomial.answer kind n h w room).additions ≤ 2 ^ k_of n * (half_degree kind (r_of n) + 1))
unfolding Polynomial.answer Polynomial.answered additions_for
additions-within kind n h w room l e =
    (told, rw (told, sym (k_of-r n l)) (additions_at_most kind (r_of n) (r_odd_squarefree n)))
  where
    told : cond (eqb (Polynomial.code kind n h w room) DONE) (additions kind (r_of n)) 0 ≡ additions kind (r_of n)
    told = ap (λ c. cond (eqb c DONE) (additions kind (r_of n)) 0) e

-- ---- the height, the peak and the gain are those of entries 0 to degree, as they stand in the buffer
pub told-of-entries :
    (kind n : ℕ) (h w : ℤ) (l : List ℤ) → Polynomial.code kind n h w (length l) ≡ DONE
    → let a = Polynomial.answer kind n h w (length l) in
    let delivered = take (suc a.degree) (Polynomial.leaves kind n h w l) in
    (a.height ≡ height_of delivered) × (a.peak ≡ peak_of delivered) × (a.gain ≡ gain_of delivered)
unfolding Polynomial.answer Polynomial.answered Polynomial.leaves Polynomial.left coefficients height peak gain
told-of-entries kind n h w l e = rw e (ap height_of (sym front), ap peak_of (sym front), ap gain_of (sym front))
  where
    N : ℕ
    N = suc (degree kind n)

    front : take N (written (coefficients kind n) l) ≡ coefficients kind n
    front =
        written-front (coefficients kind n) l N (NatL.le_of_eq (sym (length-firsts N (polynomial kind n))))
        ∙ firsts-front N N (polynomial kind n) (NatL.le_refl N)

-- ---- no coefficient passes the working limit
pub within_limit : (kind n : ℕ) (h w : ℤ) (room : ℕ) → 0 < n → Polynomial.code kind n h w room ≡ DONE → (i : ℕ)
    → nat_abs (polynomial kind n i) ≤ nat_abs w
unfolding divisors_due
within_limit kind n h w room l e i =
    NatL.le_trans (at_most-height kind n l i) (height_inside (nat_abs w) kind n l one asked.2)
  where
    asked : (below_one h ≡ false) × (below_one w ≡ false)
        × (over_among (nat_abs w) kind (r_of n) (divisors_due (r_of n)) ≡ false)
    asked = polynomial_done kind n h w room e

    one : 1 ≤ nat_abs w
    one = (good_limit w asked.1).1

-- so every coefficient can be negated
pub can_be_negated : (kind n : ℕ) (h w : ℤ) (room : ℕ) → 0 < n → Polynomial.code kind n h w room ≡ DONE
    → nat_abs w ≤ largest → (i : ℕ)
    → nat_abs (polynomial kind n i) ≤ largest
can_be_negated kind n h w room l e m i = NatL.le_trans (within_limit kind n h w room l e i) m

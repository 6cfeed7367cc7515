-- At 1 the response of a polynomial is its gain (`gain_at_one`), where the magnitudes of its coefficients add up to at
-- most 2^53. They do where the degree plus one, times the height, is no more (`by_height`), which an answer tells; and
-- for every index of at most three odd primes, both kinds (`few-primes`).
use Rattle.std.specs.Prelude.{◌≡◌, refl, Bool, true, false, List, [], ◌∷◌, ℕ, zero, suc, ◌*◌, ◌≤◌, ◌<◌, eqb, ℤ}
use Rattle.std.proofs.Common.{ap, ◌∙◌, arith}
use Rattle.std.proofs.Math.Nat as NatL
use Rattle.definitions.specs.Integers.{◌⊕◌, 0ℤ}
use Rattle.definitions.specs.Numbers.{r_of, k_of}
use Rattle.definitions.specs.Polynomials.{polynomial, degree}
use Rattle.definitions.specs.Requests.{good_index}
use Rattle.definitions.specs.Answer.{coefficients, height, gain_of, gain}
use Rattle.integers.specs.Solver.{:0, :1, ◌:+◌, ◌:*◌, :-, x, y}
use Rattle.integers.specs.Whole.{ringℤ}
use Rattle.step_laws.specs.Firsts.{length-firsts}
use Rattle.step_laws.specs.Bound.{firsts_bounded}
use Rattle.numbers.specs.Apart.{r-pos}
use Rattle.index.proofs.Laws.{index_good, r_small, degree-le}
use Rattle.light_sums.specs.Weight.{weight, weight-most}
use Rattle.cyclotomic.specs.Heights.{at_most-height}
use Rattle.never_over.specs.Promised.{promised_of, promised_at}
use Rattle.never_over.proofs.Heights.{height-promised}
use Rattle.whole_floats.specs.Holds.{most}
use Rattle.exact_response.specs.Points.{one, whole_at, times_and, whole_value}
use Rattle.exact_response.specs.Gain.{GainAtOne}
use Rattle.exact_response.proofs.Exact.{zero_is, response_exact}

-- ---- the whole-number value at 1
one_more : (g c : ℤ)
    → times_and (record { re = g; im = 0ℤ }) (whole_at one) c ≡ record { re = c ⊕ g; im = 0ℤ }
unfolding times_and whole_at
one_more g c = λ j.
    record {
      re = ringℤ (g ∷ c ∷ []) (x :* :1 :+ :- (:0 :* :0) :+ y) (y :+ x) refl j;
      im = ringℤ (g ∷ []) (x :* :0 :+ :0 :* :1) :0 refl j;
    }

pub one-gain : (cs : List ℤ) → whole_value cs (whole_at one) ≡ record { re = gain_of cs; im = 0ℤ }
unfolding whole_value gain_of
one-gain [] = refl
one-gain (c ∷ cs) = ap (λ v. times_and v (whole_at one) c) (one-gain cs) ∙ one_more (gain_of cs) c

-- ---- the response at 1
pub gain_at_one : (kind n : ℕ) (s : Bool) → weight (coefficients kind n) ≤ most → GainAtOne kind n s
unfolding gain
gain_at_one kind n s l =
    let exact = response_exact (coefficients kind n) one s l in
    let value = one-gain (coefficients kind n) in
    record {
      done = exact.done;
      real = rw value at exact.real;
      imag = rw (value, zero_is) at exact.imag;
      exact = rw value at exact.exact.0;
    }

-- ---- where the magnitudes are known to add up to so little
pub by_height : (kind n h : ℕ) → 0 < n → height kind n ≤ h → suc (degree kind n) * h ≤ most
    → weight (coefficients kind n) ≤ most
unfolding coefficients
by_height kind n h some b l =
    let many = suc (degree kind n) in
    NatL.le_trans
    (weight-most (coefficients kind n) h
    (firsts_bounded h many (polynomial kind n) (λ i _. NatL.le_trans (at_most-height kind n some i) b)))
    (rw (length-firsts many (polynomial kind n)) l)

-- up to three odd primes no coefficient is larger than 640 times 65,535
few_small : (first : Bool) (k r : ℕ) → k ≤ 3 → 0 < r → r ≤ 65535
    → (1 ≤ promised_at first k r) × (promised_at first k r ≤ 41942400)
unfolding promised_at promised_of
few_small true zero r l p s = omega arith
few_small true (suc zero) r l p s = omega arith
few_small true (suc (suc zero)) r l p s = omega arith
few_small true (suc (suc (suc zero))) r l p s = omega arith
few_small false zero r l p s = omega arith
few_small false (suc zero) r l p s = omega arith
few_small false (suc (suc zero)) r l p s = omega arith
few_small false (suc (suc (suc zero))) r l p s = omega arith
few_small first (suc (suc (suc (suc k)))) r l p s = absurd (omega arith)

pub few-primes : (kind n : ℕ) → good_index n ≡ true → k_of n ≤ 3 → weight (coefficients kind n) ≤ most
few-primes kind n good few =
    let (some, small) = index_good n good in
    let (least, promised) = few_small (eqb kind 1) (k_of n) (r_of n) few (r-pos n) (r_small n good) in
    by_height kind n 41942400 some (NatL.le_trans (height-promised n some small kind least) promised)
    (omega (arith, degree-le kind n))

-- The divisors of an odd squarefree r: 2^k of them, k the number of its primes, so 2^k - 1 below r; and the additions,
-- a sum over these divisors in which each term is at most D + 1.
use Rattle.std.specs.Prelude.{ℕ, suc, ◌+◌, ◌*◌, ◌-◌, ◌^◌, ◌≤◌, ◌≡◌, refl, Bool, true, false, cond, ◌&&◌, leb, map, length}
use Rattle.std.specs.Int.{◌∣◌}
use Rattle.std.proofs.Common.{sym, ap, ◌∙◌, pow-suc, mul-le-mul_right, le_trans, add-one, arith, leb-false}
use Rattle.std.proofs.Math.Nat.{dvd_refl}
use Rattle.std.proofs.Math.Seq.{take-length}
use Rattle.definitions.specs.Numbers.{count_to, divides, divisors_below, k_of}
use Rattle.definitions.specs.KeptHalf.{half_degree, additions, additions_after, sum_of}
use Rattle.numbers.specs.Tests.{divides_yes}
use Rattle.numbers.specs.Primes.{Prime}
use Rattle.numbers.specs.Folds.{fold_same}
use Rattle.numbers.specs.Counts.{sums, count-fold, count_yes}
use Rattle.numbers.specs.Divisors.{split-new}
use Rattle.numbers.specs.Apart.{OddSquarefree, by-odd-primes}
use Rattle.numbers.specs.HowMany.{k_one, k_times}
use Rattle.numbers.specs.Lists.{list_length, list_sum, sum_at-most}

-- each new prime doubles the divisors
divisors-double :
    (r p : ℕ) → OddSquarefree r → Prime p → ¬ (p ∣ r)
    → count_to (r * p) (λ d. divides d (r * p)) ≡ 2 * count_to r (λ d. divides d r)
divisors-double r p O P no-p =
    omega (
      arith,
      count-fold (r * p) (λ d. divides d (r * p)),
      count-fold r (λ d. divides d r),
      split-new sums (λ d. 1) P r O.pos no-p,
    )

divisors_one : count_to 1 (λ d. divides d 1) ≡ 1
unfolding count_to divides
divisors_one = refl

pub divisor_count : (r : ℕ) → OddSquarefree r → count_to r (λ d. divides d r) ≡ 2 ^ k_of r
divisor_count =
    by-odd-primes (λ r. count_to r (λ d. divides d r) ≡ 2 ^ k_of r) (rw k_one divisors_one)
    (λ r p O P u no-p ih. rw (k_times r p O.pos P u no-p, add-one)
    (omega (arith, divisors-double r p O P no-p, pow-suc 2 (k_of r))))

pub divisors_below_lem : (r : ℕ) → OddSquarefree r → length (divisors_below r) + 1 ≡ 2 ^ k_of r
unfolding divisors_below
divisors_below_lem r O = rw (list_length (λ d. divides d r) (r - 1)) (sym up ∙ divisor_count r O)
  where
    whole : suc (r - 1) ≡ r
    whole = omega (arith, O.pos)

    up : count_to r (λ d. divides d r) ≡ count_to (r - 1) (λ d. divides d r) + 1
    up =
        ap (λ x. count_to x (λ d. divides d r)) (sym whole)
        ∙ count_yes (λ d. divides d r) (r - 1) (divides_yes (suc (r - 1)) r (rw whole (dvd_refl r)))

-- a term that is 0 where a further test fails may be left out there
test_more : (b c : Bool) (x : ℕ) → (c ≡ false → x ≡ 0) → cond b x 0 ≡ cond (b && c) x 0
test_more true true x h = refl
test_more true false x h = h refl
test_more false c x h = refl

-- so a divisor above D adds nothing
pub additions-all : (kind r : ℕ) → additions_after kind r (length (divisors_below r)) ≡ additions kind r
unfolding additions_after additions divisors_below
additions-all kind r =
    ap (λ l. sum_of (map term l)) (take-length (divisors_below r))
    ∙ (list_sum (λ d. divides d r) term (r - 1)
    ∙ (fold_same sums (r - 1) (λ d a b. test_more (divides d r) (leb d (half_degree kind r)) (term d) (above d))
    ∙ sym (list_sum _ term (r - 1))))
  where
    term : ℕ → ℕ
    term d = half_degree kind r + 1 - d

    above : (d : ℕ) → leb d (half_degree kind r) ≡ false → half_degree kind r + 1 - d ≡ 0
    above d e = omega (arith, leb-false d (half_degree kind r) e)

pub additions_at_most : (kind r : ℕ) → OddSquarefree r → additions kind r ≤ 2 ^ k_of r * (half_degree kind r + 1)
unfolding additions_after
additions_at_most kind r O =
    rw (sym (additions-all kind r), take-length (divisors_below r))
    (le_trans (sum_at-most (λ d. half_degree kind r + 1 - d) (half_degree kind r + 1) (λ x. omega arith)
    (divisors_below r))
    (mul-le-mul_right (half_degree kind r + 1) (omega (arith, divisors_below_lem r O))))

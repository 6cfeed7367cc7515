-- The kept half of F(p q), p and q distinct odd primes, has no magnitude above 1 (`two_flat`): it has the coefficients
-- of F(p q) up to half the degree, which are below degree p q those of (1 - z) / ((1 - z^p) (1 - z^q)), and these are
-- differences of zeros and ones.
use Rattle.std.specs.Prelude.{ℕ, ◌+◌, ◌*◌, ◌<◌, ◌≤◌, ◌≡◌, nat_abs}
use Rattle.std.proofs.Common.{sym, mul-le-mul, arith}
use Rattle.definitions.specs.Numbers.{k_of}
use Rattle.definitions.specs.Polynomials.{F, polynomial}
use Rattle.definitions.specs.Steps.{entries}
use Rattle.definitions.specs.KeptHalf.{half_degree, kept_half}
use Rattle.definitions.specs.Requests.{divisors_due}
use Rattle.numbers.specs.Primes.{prime_pos, prime_coprime, coprime_swap}
use Rattle.numbers.specs.Apart.{OddSquarefree}
use Rattle.numbers.specs.Below.{divisors_below_lem}
use Rattle.step_laws.specs.Bound.{Bounded, firsts_bounded}
use Rattle.cyclotomic.specs.Degrees.{half_below}
use Rattle.cyclotomic.specs.Kept.{kept-all}
use Rattle.flat_for_two_primes.specs.Sums.{sums_flat}
use Rattle.flat_for_two_primes.specs.TwoPrimes.{InTwo, in_two, F_below}

-- F(p q) below degree p q
F_flat : (r : ℕ) → InTwo r → (i : ℕ) → i < r → nat_abs (F r i) ≤ 1
F_flat r t i l =
    let below : i < t.p * t.q = rw t.product l in
    rw (sym t.product, F_below t.p t.q t.P t.Q t.new i below)
    (sums_flat t.p t.q (coprime_swap (prime_coprime t.p t.Q t.new)) (prime_pos t.Q) i below)

two_above : (r : ℕ) → InTwo r → 1 < r
two_above r t = omega (arith, t.product, mul-le-mul t.P.above t.Q.above)

pub two_flat : (r : ℕ) → OddSquarefree r → divisors_due r ≡ 3 → Bounded 1 (entries (kept_half 1 r (divisors_due r)))
unfolding divisors_due polynomial
two_flat r O three =
    let t = in_two r O three in
    let above = two_above r t in
    rw (kept-all 1 r O (λ (e : r ≡ 1). omega arith))
    (firsts_bounded 1 (half_degree 1 r + 1) (F r)
    (λ i l. F_flat r t i (omega (arith, half_below 1 r above))))

-- of F itself, by the number of primes
pub flat_of_two : (r : ℕ) → OddSquarefree r → k_of r ≡ 2 → (i : ℕ) → i < r → nat_abs (F r i) ≤ 1
unfolding divisors_due
flat_of_two r O two = F_flat r (in_two r O (omega (arith, rw two at (divisors_below_lem r O))))

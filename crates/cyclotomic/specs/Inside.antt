-- Where no step is OVER under a working limit w, every kept half on the way is within w (`kept_inside`), and with the
-- last of them the height of the polynomial (`height_inside`).
use Rattle.std.specs.Prelude.{ℕ, zero, suc, ◌+◌, ◌-◌, ◌<◌, ◌≤◌, ◌≡◌, Bool, true, false, cond, eqb, nat_abs}
use Rattle.std.proofs.Common.{sym, arith}
use Rattle.std.proofs.Math.Nat as NatL
use Rattle.std.proofs.Math.Decide.{ℕ_discrete}
use Rattle.definitions.specs.Integers.{⊖}
use Rattle.definitions.specs.Series.{constant, 𝟙, _ˢ, firsts}
use Rattle.definitions.specs.Numbers.{r_of, divides, divisors_below}
use Rattle.definitions.specs.Polynomials.{polynomial}
use Rattle.definitions.specs.Steps.{entries}
use Rattle.definitions.specs.KeptHalf.{half_degree, kept_half, start}
use Rattle.definitions.specs.Requests.{divisors_due, next_divisor, over_at, over_among}
use Rattle.definitions.specs.Answer.{height}
use Rattle.numbers.specs.Apart.{r_odd_squarefree}
use Rattle.numbers.specs.Lists.{entry_has}
use Rattle.step_laws.specs.Bound.{Bounded, stays_inside, firsts_bounded}
use Rattle.step_laws.specs.Firsts.{firsts_here}
use Rattle.step_laws.specs.Tests.{neither}
use Rattle.cyclotomic.specs.Kept.{kept-all, step_kept, kept-start}
use Rattle.cyclotomic.specs.Heights.{told-half, told-one, height_least}

-- the start is 1 or -1, and then zeros
start_bound : (kind i : ℕ) → nat_abs (start kind i) ≤ 1
unfolding start constant _ˢ ⊖
start_bound kind i = go (eqb kind 1) i
  where
    go : (b : Bool) (i : ℕ) → nat_abs (cond b 𝟙 (_ˢ 𝟙) i) ≤ 1
    go true zero = omega arith
    go true (suc i) = omega arith
    go false zero = omega arith
    go false (suc i) = omega arith

pub start_bounded : (kind n : ℕ) → Bounded 1 (entries (firsts n (start kind)))
start_bounded kind n = firsts_bounded 1 n (start kind) (λ i b. start_bound kind i)

-- the divisor at place j is from 1 to r - 1
pub divisor_in : (r j : ℕ) → j < divisors_due r → (0 < next_divisor r j) × (next_divisor r j ≤ r - 1)
unfolding next_divisor divisors_due divisors_below
divisor_in r j h = let e = entry_has (λ d. divides d r) (r - 1) j h in (e.0, e.1)

pub kept_inside : (w kind r j : ℕ) → 1 ≤ w → j ≤ divisors_due r → over_among w kind r j ≡ false
    → Bounded w (entries (kept_half kind r j))
unfolding over_among over_at divisors_due
kept_inside w kind r zero one l e =
    rw (kept-start kind r) (λ i. NatL.le_trans (start_bounded kind (half_degree kind r + 1) i) one)
kept_inside w kind r (suc j) one l e =
    let below : j < divisors_due r = l in
    let both = neither (over_among w kind r j) (over_at w kind r j) e in
    rw (sym (step_kept kind r j l (divisor_in r j below).0))
    (stays_inside w _ _ (kept_half kind r j) (kept_inside w kind r j one (NatL.le_of_lt l) both.0) both.1)

pub height_inside : (w kind n : ℕ) → 0 < n → 1 ≤ w → over_among w kind (r_of n) (divisors_due (r_of n)) ≡ false
    → height kind n ≤ w
unfolding divisors_due
height_inside w kind n pos one inside = go (ℕ_discrete (r_of n) 1)
  where
    go : Dec (r_of n ≡ 1) → height kind n ≤ w
    go (yes e) = rw (told-one kind n pos e).0 one
    go (no u) =
        rw (told-half kind n pos u).0
        (height_least (half_degree kind (r_of n) + 1) (polynomial kind (r_of n)) w
        (λ i b. rw (firsts_here (half_degree kind (r_of n) + 1) (polynomial kind (r_of n)) i b)
        at (rw (kept-all kind (r_of n) (r_odd_squarefree n) u)
        at (kept_inside w kind (r_of n) (divisors_due (r_of n)) one (omega arith) inside i))))

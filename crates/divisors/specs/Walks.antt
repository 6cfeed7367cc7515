-- The walk over the divisors of r below r after j of them, and the next turn: the divisor that stands at place j, with
-- mu of r/d, and the walk after j + 1; or nothing, where all were taken. The walk tells how many are still due.
use Rattle.std.specs.Prelude.{ℕ, zero, suc, ◌-◌, ◌/◌, ◌^◌, ◌≤◌, ◌≡◌, cond, ltb, length, get_or, Option, Some, None}
use Rattle.definitions.specs.Numbers.{odd_prime_of, list_to, k_of, divisors_below, mu_is_plus}
use Rattle.numbers.specs.Apart.{OddSquarefree}
use Rattle.index.specs.Parts.{padded}
use Rattle.index.specs.declared.Parts.{Parts}
use Rattle.divisors.specs.declared.Walk.{Walk}
use Rattle.divisors.specs.declared.Divisor.{Divisor}

-- the divisor at place j, and the one taken last, 0 before the first
abbrev pub divisor_at : ℕ → ℕ → ℕ
divisor_at r j = get_or (divisors_below r) j 0

unfoldable pub last_of : ℕ → ℕ → ℕ
last_of r zero = 0
last_of r (suc j) = divisor_at r j

unfoldable pub walk_at : ℕ → ℕ → Walk
walk_at r j = record {
  primes = padded (list_to r (odd_prime_of r));
  count = k_of r;
  r = r;
  last = last_of r j;
  due = length (divisors_below r) - j;
}

unfoldable pub next_at : ℕ → ℕ → Option Divisor × Walk
next_at r j =
    cond (ltb j (length (divisors_below r)))
    (Some (record { size = divisor_at r j; plus = mu_is_plus (r / divisor_at r j) }), walk_at r (suc j))
    (None, walk_at r j)

-- how many a walk has taken; and that it is the walk after so many
unfoldable pub taken : Walk → ℕ
taken w = length (divisors_below w.r) - w.due

pub record Stands (w : Walk) : Type 0 where
  pub squarefree : OddSquarefree w.r
  pub small : w.r ≤ 65535
  pub here : w ≡ walk_at w.r (taken w)

abbrev pub next_of : Walk → Option Divisor × Walk
next_of w = next_at w.r (taken w)

-- the start, from n taken apart
abbrev pub over_parts : Parts → Walk
over_parts a = record { primes = a.primes; count = a.count; r = a.r; last = 0; due = 2 ^ a.count - 1 }

-- A divisor of p(0) p(1) .. p(k - 1), different primes, is named by the set of its primes, one bit for each.
use Rattle.std.specs.Prelude.{ℕ, zero, suc, ◌*◌, ◌/◌, ◌%◌, ◌^◌, cond, List, eqb, get_or}

-- the i-th bit; the product of the entries whose bits are ones, of the first i
abbrev pub bit : ℕ → ℕ → ℕ
bit m i = m / 2 ^ i % 2

unfoldable pub mask_to : List ℕ → ℕ → ℕ → ℕ
mask_to l m zero = 1
mask_to l m (suc i) = mask_to l m i * cond (eqb (bit m i) 1) (get_or l i 0) 1

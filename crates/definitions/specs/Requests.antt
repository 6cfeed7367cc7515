-- What the requests have in common (docs/RULES.md, 'The kept half and the partial request' and 'The codes').
use Rattle.std.specs.Prelude.{ℕ, zero, suc, Bool, false, ◌&&◌, ◌||◌, List, ◌++◌, length, get_or, drop, replicate, eqb, ltb, leb, ℤ}
use Rattle.definitions.specs.Integers.{0ℤ}
use Rattle.definitions.specs.Numbers.{divisors_below}
use Rattle.definitions.specs.Steps.{step_over}
use Rattle.definitions.specs.KeptHalf.{sort_of, kept_half}

-- kind is 1 or 2; n is from 1 to 65,535
unfoldable pub known_kind : ℕ → Bool
known_kind kind = eqb kind 1 || eqb kind 2

unfoldable pub good_index : ℕ → Bool
good_index n = ltb 0 n && leb n 65535

-- the divisor whose turn it is after j of them, and how many there are
unfoldable pub next_divisor : ℕ → ℕ → ℕ
next_divisor r j = get_or (divisors_below r) j 0

unfoldable pub divisors_due : ℕ → ℕ
divisors_due r = length (divisors_below r)

-- the step after j divisors, taken on the kept half, would put a value outside the range; one of the first j steps
-- would
unfoldable pub over_at : ℕ → ℕ → ℕ → ℕ → Bool
over_at w kind r j = step_over w (sort_of kind r (next_divisor r j)) (next_divisor r j) (kept_half kind r j)

unfoldable pub over_among : ℕ → ℕ → ℕ → ℕ → Bool
over_among w kind r zero = false
over_among w kind r (suc j) = over_among w kind r j || over_at w kind r j

-- a list written over the first entries of a buffer; the rest stays as it was
unfoldable pub written : List ℤ → List ℤ → List ℤ
written new l = new ++ drop (length new) l

unfoldable pub zeros : ℕ → List ℤ
zeros n = replicate n 0ℤ

-- The two steps (docs/RULES.md, 'The steps'), on a slice a of L entries, each with a size d. A comb
-- makes a(i) into old a(i) - old a(i-d) for i >= d; an accumulate makes a(i) into old a(i) + new a(i-d) for i >= d.
-- Entries below d stay. A step on L entries counts L - d additions, or 0 where d >= L.
use Rattle.std.specs.Prelude.{ℕ, zero, suc, ◌-◌, Bool, false, cond, not, ◌&&◌, ◌||◌, List, length, get_or, ℤ, pos, nat_abs, eqb, ltb, leb}
use Rattle.std.specs.Int.Signed.{lt_z}
use Rattle.definitions.specs.Integers.{◌⊕◌, ◌⊝◌, 0ℤ}
use Rattle.definitions.specs.Series.{Series, firsts}
use Rattle.definitions.specs.Codes.{DONE, LIMIT, OVER, STEP}

pub data Sort : Type 0 where
  comb accumulate : Sort

unfoldable pub combed : ℕ → Series → Series
combed d a i = cond (ltb i d) (a i) (a i ⊝ a (i - d))

-- new a(i), where `turns` is at least the number of times that d goes into i
unfoldable pub accumulated_in : ℕ → ℕ → Series → Series
accumulated_in zero d a i = a i
accumulated_in (suc turns) d a i = cond (ltb i d) (a i) (a i ⊕ accumulated_in turns d a (i - d))

unfoldable pub accumulated : ℕ → Series → Series
accumulated d a i = accumulated_in i d a i

unfoldable pub stepped : Sort → ℕ → Series → Series
stepped comb d a = combed d a
stepped accumulate d a = accumulated d a

-- a value is in the range w where its magnitude is at most w, the working limit
unfoldable pub in_range : ℕ → ℤ → Bool
in_range w v = leb (nat_abs v) w

-- one of the first n entries at d or above is outside the range
unfoldable pub some_outside : ℕ → ℕ → ℕ → Series → Bool
some_outside w d zero a = false
some_outside w d (suc n) a = some_outside w d n a || leb d n && not (in_range w (a n))

-- the entries of a list, 0 past its end
unfoldable pub entries : List ℤ → Series
entries l i = get_or l i 0ℤ

-- the step would put a value outside the range at some i >= d
unfoldable pub step_over : ℕ → Sort → ℕ → List ℤ → Bool
step_over w s d l = some_outside w d (length l) (stepped s d (entries l))

-- what stands in the slice after the step
unfoldable pub step_list : Sort → ℕ → List ℤ → List ℤ
step_list s d l = firsts (length l) (stepped s d (entries l))

-- the largest value that is ever delivered, and the largest working limit
abbrev pub largest : ℕ
largest = 9223372036854775807

-- a limit, of a height or of what the steps make, that is below 1; the requests refuse it
unfoldable pub below_one : ℤ → Bool
below_one w = lt_z w (pos 1)

-- a step asked for on its own, with a working limit w: STEP for size 0 or above 65,535, then LIMIT, then OVER, and each
-- leaves every entry as it was
unfoldable pub step_code : ℤ → Sort → ℕ → List ℤ → ℕ
step_code w s d l =
    cond (eqb d 0 || ltb 65535 d) STEP
    (cond (below_one w) LIMIT
    (cond (step_over (nat_abs w) s d l) OVER DONE))

unfoldable pub step_count : ℤ → Sort → ℕ → List ℤ → ℕ
step_count w s d l = cond (eqb (step_code w s d l) DONE) (length l - d) 0

unfoldable pub step_leaves : ℤ → Sort → ℕ → List ℤ → List ℤ
step_leaves w s d l = cond (eqb (step_code w s d l) DONE) (step_list s d l) l

-- The lines of rows, one row at a time.
use mathlib.Core.Path.{◌≡◌, refl, sym, ◌∙◌, ap}
use mathlib.Core.List.{List, [], ◌∷◌, ◌++◌, append_assoc, append-nil}
use Prim.Native.Nat.{ℕ, zero, suc, ◌+◌, ◌*◌, ◌<◌}
use native.Mathlib.Numerals.{add-one}
use native.Mathlib.Omega.{arith}
use lib.ListN.{length, get_or, take, drop}
use lib.Seq.{take-add, drop-cons, length-take-le}
use Rattle.census_lines.specs.Printed.{row_line, row_lines}

lines_append : (i : ℕ) (xs ys : List ℕ) → length xs ≡ 3 * i → row_lines (xs ++ ys) ≡ row_lines xs ++ row_lines ys
unfolding row_lines
lines_append i [] ys e = refl
lines_append zero (x ∷ xs) ys e = absurd (never e)
  where
    never : suc (length xs) ≡ 0 → ⊥
    never e = omega arith
lines_append (suc i) (x ∷ []) ys e = absurd (never e)
  where
    never : 1 ≡ 3 * suc i → ⊥
    never e = omega arith
lines_append (suc i) (x ∷ y ∷ []) ys e = absurd (never e)
  where
    never : 2 ≡ 3 * suc i → ⊥
    never e = omega arith
lines_append (suc i) (x ∷ y ∷ z ∷ xs) ys e =
    ap (λ r. row_line x y z ++ r) (lines_append i xs ys (less e))
    ∙ sym (append_assoc (row_line x y z) (row_lines xs) (row_lines ys))
  where
    less : suc (suc (suc (length xs))) ≡ 3 * suc i → length xs ≡ 3 * i
    less e = omega arith

three : (l : List ℕ) (k : ℕ) → k + 2 < length l
    → take 3 (drop k l) ≡ get_or l k 0 ∷ get_or l (k + 1) 0 ∷ get_or l (k + 2) 0 ∷ []
three l k h =
    rw (
      add-one k,
      two k,
      drop-cons l k 0 (omega arith),
      drop-cons l (suc k) 0 (omega arith),
      drop-cons l (suc (suc k)) 0 (omega arith),
    )
    refl
  where
    two : (k : ℕ) → k + 2 ≡ suc (suc k)
    two k = omega arith

-- one row more
pub line_more : (l : List ℕ) (i : ℕ) → 3 * i + 2 < length l
    → row_lines (take (3 * (i + 1)) l)
    ≡ row_lines (take (3 * i) l) ++ row_line (get_or l (3 * i) 0) (get_or l (3 * i + 1) 0) (get_or l (3 * i + 2) 0)
unfolding row_lines
line_more l i h =
    rw (more i, take-add (3 * i) 3 l, three l (3 * i) h)
    (lines_append i (take (3 * i) l) _ (length-take-le (3 * i) l (omega arith))
    ∙ ap (λ r. row_lines (take (3 * i) l) ++ r) (append-nil _))
  where
    more : (i : ℕ) → 3 * (i + 1) ≡ 3 * i + 3
    more i = omega arith

-- What stands in a record doesn't hang on what comes after it: its header, and its coefficients.
use Prim.Native.Nat.{ℕ, zero, suc, ◌+◌, ◌*◌, ◌<◌, ◌≤◌}
use mathlib.Core.Path.{◌≡◌, refl, sym, ap, ap₂, ◌∙◌}
use mathlib.Core.List.{List, ◌++◌}
use native.Mathlib.Omega.{arith}
use native.Mathlib.Nat.{suc-mul}
use borrow.Author.Tests.{le-ltb}
use lib.ListN.{length, get_or, take, drop, length-append, length-drop}
use lib.Seq.{take-append_seam, take-append-le, drop-append-le, get_or-take}
use Rattle.definitions.specs.Polynomials.{degree}
use Rattle.widths.specs.Numbers.{number, coefficients_at}
use Rattle.record.specs.Header.{Field, in_field, marked, fields, kind_in, width_in, index_in, count_in, degree_in}
use Rattle.record.specs.Header.{kind_field, width_field, index_field, count_field, field_code, header_code}

part-front : (at k : ℕ) (xs ys : List ℕ) → at + k ≤ length xs → take k (drop at (xs ++ ys)) ≡ take k (drop at xs)
part-front at k xs ys h =
    rw (drop-append-le at xs ys (omega arith)) (take-append-le k (drop at xs) ys (rw length-drop (omega arith)))

get_d_front : (xs ys : List ℕ) (i : ℕ) → i < length xs → get_or (xs ++ ys) i 0 ≡ get_or xs i 0
get_d_front xs ys i h =
    sym (get_or-take (length xs) (xs ++ ys) i 0 h) ∙ ap (λ (l : List ℕ). get_or l i 0) (take-append_seam xs ys)

-- the header
module _ (xs ys : List ℕ) (long : 10 ≤ length xs) where
  field_front : (f : Field) → f.first + f.long ≤ 10 → in_field f (xs ++ ys) ≡ in_field f xs
  field_front f h = ap number (part-front f.first f.long xs ys (omega arith))

  pub kind-front : kind_in (xs ++ ys) ≡ kind_in xs
  kind-front = field_front kind_field (omega arith)

  pub width-front : width_in (xs ++ ys) ≡ width_in xs
  width-front = field_front width_field (omega arith)

  pub index-front : index_in (xs ++ ys) ≡ index_in xs
  index-front = field_front index_field (omega arith)

  pub count-front : count_in (xs ++ ys) ≡ count_in xs
  count-front = field_front count_field (omega arith)

  pub degree-front : degree_in (xs ++ ys) ≡ degree_in xs
  unfolding degree_in
  degree-front = ap₂ degree kind-front index-front

  marked-front : (mark : ℕ) → marked mark (xs ++ ys) ≡ marked mark xs
  unfolding marked
  marked-front mark = rw (get_d_front xs ys 0 (omega arith), get_d_front xs ys 1 (omega arith))

  fields-front : field_code fields (xs ++ ys) ≡ field_code fields xs
  unfolding field_code
  fields-front = rw (kind-front, width-front, index-front, count-front, degree-front)

  pub header_front : (mark : ℕ) → header_code mark (xs ++ ys) ≡ header_code mark xs
  unfolding header_code
  header_front mark =
      rw (
        marked-front mark,
        fields-front,
        le-ltb (length (xs ++ ys)) 10 (rw length-append (omega arith)),
        le-ltb (length xs) 10 long,
      )

-- the coefficients
pub coefficients-front : (w k : ℕ) (xs ys : List ℕ) → k * w ≤ length xs
    → coefficients_at w k (xs ++ ys) ≡ coefficients_at w k xs
unfolding coefficients_at
coefficients-front w zero xs ys h = refl
coefficients-front w (suc k) xs ys h =
    let room : w + k * w ≤ length xs = omega (arith, suc-mul k w) in
    rw (
      take-append-le w xs ys (omega arith),
      drop-append-le w xs ys (omega arith),
      coefficients-front w k (drop w xs) ys (rw length-drop (omega arith)),
    )

-- What is read of a first line, part by part: a part that is wrong makes the line wrong, and where none is, it is good.
use Rattle.std.proofs.Common.{◌≡◌, ℕ, ◌+◌, ◌≤◌, Bool, true, false, ◌&&◌, cond, List, length, get_or, Option, None, Some, refl, sym, ◌∙◌, arith}
use mathlib.Core.Bool.{and-false, true≢false}
use Rattle.std.specs.Bool.{then_some}
use Rattle.std.proofs.Math.Dec.{eqb}
use borrow.Author.Tests.{eqb-true}
use Rattle.text.specs.Text.{SPACE}
use Rattle.digits.specs.Digits.{digits_at, number_at, one_to_nine, IsNumber}
use Rattle.digits.proofs.Digits.{nine_range}
use Rattle.census_lines.specs.Asked.{is_good_with, place_of_b, is_good, bounds_in}
use Rattle.census_lines.specs.declared.asked.Bounds.{Bounds}

pub reads_wrong : (l : List ℕ) → is_good l ≡ false → bounds_in l ≡ None
unfolding bounds_in
reads_wrong l g = rw g

chosen : (w : Bool) (b : Bounds) → then_some w b ≡ cond w (Some b) None
chosen true b = refl
chosen false b = refl

both : (a b : Bool) → (a && b) ≡ true → (a ≡ true) × (b ≡ true)
both true b e = (refl, e)
both false b e = absurd (true≢false (sym e))

module _ (l : List ℕ) where
  pub no_first : one_to_nine (digits_at l 0) ≡ false → bounds_in l ≡ None
  unfolding is_good is_good_with
  no_first h = reads_wrong l (simp h)

  pub no_space : eqb (get_or l (digits_at l 0) 0) SPACE ≡ false → bounds_in l ≡ None
  unfolding is_good is_good_with
  no_space h = reads_wrong l (simp (h, and-false))

  pub no_second : one_to_nine (digits_at l (1 + digits_at l 0)) ≡ false → bounds_in l ≡ None
  unfolding is_good is_good_with place_of_b
  no_second h = reads_wrong l (simp (h, and-false))

  all_of_it : one_to_nine (digits_at l 0) ≡ true → eqb (get_or l (digits_at l 0) 0) SPACE ≡ true
      → one_to_nine (digits_at l (1 + digits_at l 0)) ≡ true
      → then_some (eqb (length l) (1 + digits_at l 0 + digits_at l (1 + digits_at l 0)))
      (record { a = number_at l 0; b = number_at l (1 + digits_at l 0) })
      ≡ bounds_in l
  unfolding bounds_in is_good is_good_with place_of_b
  all_of_it f s g = simp (f, s, g) (chosen _ _)

  -- where all parts are right, the line is good if that is all of it
  pub reads_all : (p a q b : ℕ) (r : Option Bounds) → IsNumber l 0 (Some (p, a)) → eqb (get_or l p 0) SPACE ≡ true
      → IsNumber l (1 + p) (Some (q, b)) → r ≡ then_some (eqb (length l) (1 + p + q)) (record { a = a; b = b })
      → r ≡ bounds_in l
  reads_all p a q b r f s g e =
      let gap = rw f.1 at s in
      let second = rw f.1 at g in
      e ∙ rw (f.2, second.2, second.1, f.1) (all_of_it f.0 gap second.0)

  pub good_short : is_good l ≡ true → length l ≤ 19
  unfolding is_good is_good_with
  good_short e =
      let p = digits_at l 0 in
      let q = digits_at l (place_of_b l) in
      let first = both (one_to_nine p) (eqb (get_or l p 0) SPACE && (one_to_nine q && eqb (length l) (1 + p + q))) e in
      let second = both (one_to_nine q) (eqb (length l) (1 + p + q)) (both (eqb (get_or l p 0) SPACE) _ first.1).1 in
      omega (arith, nine_range p first.0, nine_range q second.0, eqb-true (length l) (1 + p + q) second.1)

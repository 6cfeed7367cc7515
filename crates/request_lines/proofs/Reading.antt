-- What is read of a line, part by part: a part that is wrong makes the line wrong, and where none is, it is good.
use Rattle.std.proofs.Common.{◌≡◌, ℕ, ◌+◌, ◌<◌, ◌≤◌, IfSome, Bool, true, false, ◌&&◌, cond, List, length, get_or, Option, None, Some, refl, sym, ◌∙◌, arith}
use mathlib.Core.Bool.{and-false, true≢false}
use Rattle.std.specs.Bool.{then_some}
use Rattle.std.proofs.Math.Dec.{eqb}
use borrow.Author.Tests.{eqb-true}
use Rattle.definitions.specs.Requests.{known_kind}
use Rattle.text.specs.Text.{SPACE}
use Rattle.digits.specs.Digits.{digits_at, number_at, one_to_nine, IsNumber}
use Rattle.digits.proofs.Digits.{nine_range}
use Rattle.request_lines.specs.Request.{kind_of, IsKind, is_good_with, place_of_limit, is_good, read_line}
use Rattle.request_lines.specs.declared.Request.{Request}

pub reads_wrong : (l : List ℕ) → is_good l ≡ false → read_line l ≡ None
unfolding read_line
reads_wrong l g = rw g

chosen : (w : Bool) (q : Request) → then_some w q ≡ cond w (Some q) None
chosen true q = refl
chosen false q = refl

bounded : (w : Bool) (q : Request) → q.h < 1000000000 → IfSome (then_some w q) (λ q. q.h < 1000000000)
bounded true q h = h
bounded false q h = tt

both : (a b : Bool) → (a && b) ≡ true → (a ≡ true) × (b ≡ true)
both true b e = (refl, e)
both false b e = absurd (true≢false (sym e))

module _ (l : List ℕ) where
  pub no_kind : known_kind (kind_of (get_or l 0 0)) ≡ false → read_line l ≡ None
  unfolding is_good is_good_with
  no_kind h = reads_wrong l (simp h)

  pub no_space : eqb (get_or l 1 0) SPACE ≡ false → read_line l ≡ None
  unfolding is_good is_good_with
  no_space h = reads_wrong l (simp (h, and-false))

  pub no_index : one_to_nine (digits_at l 2) ≡ false → read_line l ≡ None
  unfolding is_good is_good_with
  no_index h = reads_wrong l (simp (h, and-false))

  pub no_gap : eqb (get_or l (2 + digits_at l 2) 0) SPACE ≡ false → read_line l ≡ None
  unfolding is_good is_good_with
  no_gap h = reads_wrong l (simp (h, and-false))

  pub no_limit : one_to_nine (digits_at l (3 + digits_at l 2)) ≡ false → read_line l ≡ None
  unfolding is_good is_good_with place_of_limit
  no_limit h = reads_wrong l (simp (h, and-false))

  all_of_it : known_kind (kind_of (get_or l 0 0)) ≡ true → eqb (get_or l 1 0) SPACE ≡ true
      → one_to_nine (digits_at l 2) ≡ true → eqb (get_or l (2 + digits_at l 2) 0) SPACE ≡ true
      → one_to_nine (digits_at l (3 + digits_at l 2)) ≡ true
      → then_some (eqb (length l) (3 + digits_at l 2 + digits_at l (3 + digits_at l 2)))
      (record { kind = kind_of (get_or l 0 0); n = number_at l 2; h = number_at l (3 + digits_at l 2) })
      ≡ read_line l
  unfolding read_line is_good is_good_with place_of_limit
  all_of_it k s n g h = simp (k, s, n, g, h) (chosen _ _)

  -- where all parts are right, the line is good if that is all of it
  pub reads_all : (kind a n b h : ℕ) (r : Option Request) → IsKind (get_or l 0 0) (Some kind)
      → eqb (get_or l 1 0) SPACE ≡ true → IsNumber l 2 (Some (a, n)) → eqb (get_or l (2 + a) 0) SPACE ≡ true
      → IsNumber l (3 + a) (Some (b, h))
      → r ≡ then_some (eqb (length l) (3 + a + b)) (record { kind = kind; n = n; h = h })
      → (r ≡ read_line l) × IfSome r (λ q. q.h < 1000000000)
  reads_all kind a n b h r k s x g y e =
      let gap = rw x.1 at g in
      let limit = rw x.1 at y in (
        e ∙ rw (k.1, x.2, limit.2, limit.1, x.1) (all_of_it k.0 s x.0 gap limit.0),
        rw e (bounded (eqb (length l) (3 + a + b)) (record { kind = kind; n = n; h = h }) y.3),
      )

  -- a good line has at most 21 bytes
  pub good_short : is_good l ≡ true → length l ≤ 21
  unfolding is_good is_good_with
  good_short e =
      let a = digits_at l 2 in
      let b = digits_at l (place_of_limit l) in
      let p = both (one_to_nine a) (eqb (get_or l (2 + a) 0) SPACE && (one_to_nine b && eqb (length l) (3 + a + b)))
      (both (eqb (get_or l 1 0) SPACE) _ (both _ _ e).1).1 in
      let q = both (one_to_nine b) (eqb (length l) (3 + a + b)) (both (eqb (get_or l (2 + a) 0) SPACE) _ p.1).1 in
      omega (arith, nine_range a p.0, nine_range b q.0, eqb-true (length l) (3 + a + b) q.1)

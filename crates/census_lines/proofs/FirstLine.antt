-- The first line of an input, byte by byte; and that nothing behind its newline, nor behind the first 20 bytes, makes a
-- difference to what is printed: a good line has at most 19 bytes.
use mathlib.Core.Path.{◌≡◌, refl, sym, ◌∙◌, ap}
use mathlib.Core.List.{List, [], ◌∷◌, ◌++◌}
use Prim.Native.Nat.{ℕ, zero, suc, ◌<◌, ◌≤◌}
use native.Mathlib.Nat.{not-suc-le-zero}
use native.Mathlib.Omega.{arith}
use lib.ListN.{length, take}
use lib.Seq.{take_all, length-take-le}
use lib.Dec.{eqb}
use mathlib.Core.Bool.{not}
use Rattle.std.specs.List.{prefix_len}
use Rattle.std.specs.Prelude.{None}
use Rattle.step_laws.specs.Tests.{by_test, by_order, not_true_is}
use Rattle.text.specs.Text.{NEWLINE}
use Rattle.census_lines.specs.Asked.{first_line, is_good, bounds_in}
use Rattle.census_lines.specs.Printed.{reply_to, printed}
use Rattle.census_lines.proofs.Reading.{good_short, reads_wrong}

-- its bytes are those before the first newline, as std counts them
pub counted : (l : List ℕ) → prefix_len (λ x. not (eqb x NEWLINE)) l ≡ length (first_line l)
unfolding first_line
counted [] = refl
counted (x ∷ xs) = by_test (eqb x NEWLINE) (λ e. rw e) (λ e. rw e (omega (arith, counted xs)))

pub front : (l : List ℕ) → take (length (first_line l)) l ≡ first_line l
unfolding first_line
front [] = refl
front (x ∷ xs) = by_test (eqb x NEWLINE) (λ e. rw e) (λ e. rw e (ap (λ r. x ∷ r) (front xs)))

pub within : (l : List ℕ) → length (first_line l) ≤ length l
unfolding first_line
within [] = omega arith
within (x ∷ xs) = by_test (eqb x NEWLINE) (λ e. rw e (omega arith)) (λ e. rw e (omega (arith, within xs)))

-- as much of the first line as of the input
first_of-take : (k : ℕ) (l : List ℕ) → first_line (take k l) ≡ take k (first_line l)
unfolding first_line
first_of-take zero l = refl
first_of-take (suc k) [] = refl
first_of-take (suc k) (x ∷ xs) =
    by_test (eqb x NEWLINE) (λ e. rw e) (λ e. rw e (ap (λ r. x ∷ r) (first_of-take k xs)))

too_long : (line : List ℕ) → 20 ≤ length line → bounds_in line ≡ None
too_long line h = reads_wrong line (not_true_is (is_good line) (λ e. clash (good_short line e)))
  where
    clash : length line ≤ 19 → ⊥
    clash m = omega arith

-- the first 20 bytes say all
pub first_bytes : (k : ℕ) (input : List ℕ) → 20 ≤ k → printed (take k input) ≡ printed input
unfolding printed
first_bytes k input h =
    let line = first_line input in
    ap (λ r. reply_to (bounds_in r)) (first_of-take k input)
    ∙ by_order k (length line)
    (λ m.
    ap reply_to
    (too_long (take k line) (omega (arith, length-take-le k line (omega arith)))
    ∙ sym (too_long line (omega arith))))
    (λ m. ap (λ r. reply_to (bounds_in r)) (take_all k line m))

-- what comes after the first newline makes no difference
first_of_more : (l more : List ℕ) → length (first_line l) < length l → first_line (l ++ more) ≡ first_line l
unfolding first_line
first_of_more [] more h = absurd (not-suc-le-zero h)
first_of_more (x ∷ xs) more h =
    by_test (eqb x NEWLINE) (λ e. rw e)
    (λ e. rw e (ap (λ r. x ∷ r) (first_of_more xs more (omega (arith, rw e at h)))))

pub after_newline : (input more : List ℕ) → length (first_line input) < length input
    → printed (input ++ more) ≡ printed input
unfolding printed
after_newline input more h = ap (λ r. reply_to (bounds_in r)) (first_of_more input more h)

-- A record by itself: the stretch of a shelf from which a record reads, taken out, reads as it did in its place.
use Prim.Native.Nat.{ℕ, ◌-◌, ◌≤◌}
use mathlib.Core.Path.{◌≡◌, refl, sym, ap, ◌∙◌}
use mathlib.Core.List.{List, ◌++◌}
use native.Mathlib.Omega.{arith}
use borrow.Author.Tests.{le-ltb, eq-eqb}
use lib.ListN.{length, take, drop, length-append, length-drop, take-append-drop}
use lib.Seq.{take_all, drop-append-le, length-take-le}
use Rattle.definitions.specs.Codes.{DONE}
use Rattle.widths.specs.Numbers.{width}
use Rattle.record.specs.Header.{width_in, count_in, header_code}
use Rattle.record.proofs.Fronts.{width-front, count-front, header_front, coefficients-front}
use Rattle.forms.specs.declared.Form.TheVariants.{Whole}
use Rattle.forms.specs.Format as Forms
use Rattle.forms.specs.Format.{stored_in, read_code}
use Rattle.forms.proofs.Reading as Reading
use Rattle.forms.proofs.Reading.{code_done}
use Rattle.forms.proofs.Done.{Read_right, looked}
use Rattle.shelf.specs.Format.{whole_mark, size_in, look_code}

-- the rest of a shelf, as a part of a slice with no end is known
pub tail : (l : List ℕ) (start : ℕ) → take (length l - start) (drop start l) ≡ drop start l
tail l start = take_all (length l - start) (drop start l) (rw length-drop (omega arith))

pub size_least : (bs : List ℕ) → 10 ≤ size_in bs
size_least = Reading.size_least Whole

-- in front of others it is what it is by itself
module _ (s rest : List ℕ) (long : 10 ≤ length s) where
  pub size-front : size_in (s ++ rest) ≡ size_in s
  unfolding Forms.size_in
  size-front = rw (count-front s rest long, width-front s rest long)

  module _ (room : size_in s ≤ length s) where
    pub stored-front : stored_in Whole (s ++ rest) ≡ stored_in Whole s
    unfolding stored_in Forms.size_in
    stored-front =
        rw (count-front s rest long, width-front s rest long, drop-append-le 10 s rest long)
        (coefficients-front (width_in s) (count_in s) (drop 10 s) rest (rw length-drop (omega arith)))

    pub look_front : look_code (s ++ rest) ≡ look_code s
    unfolding Forms.look_code read_code
    look_front =
        rw (
          header_front s rest long whole_mark,
          count-front s rest long,
          width-front s rest long,
          size-front,
          stored-front,
          le-ltb (length (s ++ rest)) (size_in s) (rw length-append (omega arith)),
          le-ltb (length s) (size_in s) room,
        )

-- what the look passes has a right header, and is whole; and taken out
module _ (bs : List ℕ) (good : look_code bs ≡ DONE) where
  fits : Read_right Whole bs (count_in bs)
  fits = looked Whole bs good

  pub header_looked : header_code whole_mark bs ≡ DONE
  header_looked = fits.header

  pub size_looked : size_in bs ≤ length bs
  size_looked = fits.long

  abbrev alone : List ℕ
  alone = take (size_in bs) bs

  abbrev after : List ℕ
  after = drop (size_in bs) bs

  length-alone : length alone ≡ size_in bs
  length-alone = length-take-le (size_in bs) bs fits.long

  joined : alone ++ after ≡ bs
  joined = take-append-drop (size_in bs) bs

  long : 10 ≤ length alone
  long = omega (arith, length-alone, size_least bs)

  size-alone : size_in alone ≡ size_in bs
  size-alone = sym (size-front alone after long) ∙ ap size_in joined

  -- it reads, and all of it is the record
  pub whole-alone : (look_code alone ≡ DONE) × (size_in alone ≡ length alone)
  whole-alone = (
    sym (look_front alone after long (omega (arith, size-alone, length-alone))) ∙ ap look_code joined ∙ good,
    size-alone ∙ sym length-alone,
  )

-- what the look passes is read, wherever there is room for its coefficients
pub reads : (s : List ℕ) (room : ℕ) → look_code s ≡ DONE → count_in s ≤ room → read_code Whole s room ≡ DONE
reads s room good fits =
    let g = looked Whole s good in
    code_done Whole s room g.header g.long fits (eq-eqb (width (stored_in Whole s)) (width_in s) g.wide) refl

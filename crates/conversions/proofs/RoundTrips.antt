-- There and back: a record that converts to the other form converts back to the same bytes. One theorem for both ways
-- and every width, over what `to_half` and `to_whole` promise. And what converting leaves is what the other form's
-- writer leaves of the coefficients that this form's reader delivers.
use Prim.Native.Nat.{ℕ, zero, suc, ◌≤◌, ◌<◌}
use mathlib.Core.Path.{◌≡◌, refl, sym, ◌∙◌}
use mathlib.Core.Bool.{Bool, true, false, cond, not}
use mathlib.Core.List.{List, ◌++◌}
use native.Mathlib.Omega.{arith}
use borrow.Author.Tests.{ltb-false}
use lib.ListN.{length, get_or, take, drop}
use lib.Dec.{eqb, ltb, eqb-suc-zero}
use Rattle.definitions.specs.Codes.{DONE, SHORT, UNEVEN}
use Rattle.record.specs.Header.{kind_in, index_in, count_in, degree_in, byte_of}
use Rattle.widths.proofs.Digits.{Bytes, bytes_each}
use Rattle.forms.specs.declared.Form.{Form}
use Rattle.forms.specs.declared.Form.TheVariants.{Whole, Half}
use Rattle.forms.specs.Format.{record_of, size, uneven_for, coefficients_in, size_in, look_code, write_leaves}
use Rattle.forms.proofs.Done.{Storable, Read_right, looked}
use Rattle.forms.proofs.Writing.{stored-whole}
use Rattle.forms.proofs.WriteRead.{Back, back}
use Rattle.forms.proofs.ReadWrite.{storable_read, size_read, record_same}
use Rattle.conversions.specs.declared.Converted.{Converted}
use Rattle.conversions.specs.Converting.{other, convert_code, convert_tells, convert_answer, convert_leaves}
use Rattle.conversions.proofs.Converting.{code_done, by_code}

-- what `to_half` and `to_whole` promise, by the form of what they are given
abbrev pub converted : Form → List ℕ → List ℕ → Converted
converted from bs out = convert_answer from bs (length out)

-- what a converter that refuses nothing was given
pub record Converts (from : Form) (bs : List ℕ) (room : ℕ) : Type 0 where
  pub look : look_code from bs ≡ DONE
  pub even : uneven_for (other from) (kind_in bs) (index_in bs) (coefficients_in from bs) ≡ false
  pub fits : size (other from) (coefficients_in from bs) ≤ room

pub converts : (from : Form) (bs : List ℕ) (room : ℕ) → convert_code from bs room ≡ DONE → Converts from bs room
unfolding convert_code
converts from bs room =
    go (look_code from bs) refl (uneven_for (other from) (kind_in bs) (index_in bs) (coefficients_in from bs)) refl
    (ltb room (size (other from) (coefficients_in from bs))) refl
  where
    wrong : {k : ℕ} → suc k ≡ 0 → Converts from bs room
    wrong e = absurd (omega arith)

    go : (l : ℕ) → look_code from bs ≡ l → (u : Bool)
        → uneven_for (other from) (kind_in bs) (index_in bs) (coefficients_in from bs) ≡ u
        → (s : Bool) → ltb room (size (other from) (coefficients_in from bs)) ≡ s
        → cond (not (eqb l DONE)) l (cond u UNEVEN (cond s SHORT DONE)) ≡ DONE → Converts from bs room
    go (suc l) el u eu s es e = wrong (simp (eqb-suc-zero l) at e)
    go zero el true eu s es e = wrong e
    go zero el false eu true es e = wrong e
    go zero el false eu false es e =
        record { look = el; even = eu; fits = ltb-false room (size (other from) (coefficients_in from bs)) es }

-- the other form takes what this one has, and this one takes it back
module _ (from : Form) (bs : List ℕ) (room : ℕ) (p : Bytes bs) (g : Converts from bs room) where
  this : Storable from (kind_in bs) (index_in bs) (coefficients_in from bs)
  this = storable_read from bs (count_in bs) p (looked from bs g.look)

  pub that : Storable (other from) (kind_in bs) (index_in bs) (coefficients_in from bs)
  that =
      record {
        known = this.known;
        good = this.good;
        count = this.count;
        within = this.within;
        even = g.even;
      }

  pub back_even : uneven_for from (kind_in bs) (index_in bs) (coefficients_in from bs) ≡ false
  back_even = this.even

pub twice : (form : Form) → other (other form) ≡ form
twice Whole = refl
twice Half = refl

module _ (from : Form) (bs out b : List ℕ) (done : (converted from bs out).code ≡ DONE)
    (bytes : (i : ℕ) → get_or bs i 0 < 256) where
  abbrev record_of_lem : List ℕ
  record_of_lem = record_of (other from) (kind_in bs) (index_in bs) (coefficients_in from bs)

  given : Converts from bs (length out)
  unfolding convert_answer convert_tells
  given = converts from bs (length out) done

  p : Bytes bs
  p = bytes_each bs bytes

  left : convert_leaves from bs out ≡ record_of_lem ++ drop (size (other from) (coefficients_in from bs)) out
  unfolding convert_answer convert_tells convert_leaves
  left = rw done

  reads_back : Back (other from) (kind_in bs) (index_in bs) (coefficients_in from bs) (convert_leaves from bs out)
  reads_back =
      rw left
      (back (other from) (kind_in bs) (index_in bs) (coefficients_in from bs)
      (drop (size (other from) (coefficients_in from bs)) out) (that from bs (length out) p given))

  -- what converting leaves is what the other form's writer leaves
  pub as_written : convert_leaves from bs out
      ≡ write_leaves (other from) (kind_in bs) (index_in bs) (coefficients_in from bs) out
  as_written =
      let s = that from bs (length out) p given in
      left
      ∙ (stored-whole (other from) (kind_in bs) (index_in bs) (coefficients_in from bs) out s.known s.good s.count
      s.within s.even given.fits).1

  -- and back to the same bytes
  pub there_and_back : (converted from bs out).read ≤ length b →
      let r = converted from bs out in
      (converted (other from) (convert_leaves from bs out) b
      ≡ record { code = DONE; degree = r.degree; read = r.written; written = r.read; byte = 0 })
      × (convert_leaves (other from) (convert_leaves from bs out) b ≡ take r.read bs ++ drop r.read b)
  unfolding convert_answer convert_tells byte_of look_code degree_in
  there_and_back room =
      let q = by_code (other from) bs₂ b DONE code_back in
      rw done (
        sym q.0 ∙ rw (degree_back, reads_back.size_in_lem, size_back),
        sym q.1 ∙ rw (record_back, size_back),
      )
    where
      bs₂ : List ℕ
      bs₂ = convert_leaves from bs out

      good : Read_right from bs (count_in bs)
      good = looked from bs given.look

      degree_back : degree_in bs₂ ≡ degree_in bs
      degree_back = reads_back.degree_in_lem

      even_back : uneven_for (other (other from)) (kind_in bs₂) (index_in bs₂) (coefficients_in (other from) bs₂) ≡ false
      even_back =
          rw (twice from, reads_back.kind_in_lem, reads_back.index_in_lem, reads_back.whole)
          (back_even from bs (length out) p given)

      size_back : size (other (other from)) (coefficients_in (other from) bs₂) ≡ size_in from bs
      size_back = rw (twice from, reads_back.whole) (size_read from bs (count_in bs) p good)

      record_back : record_of (other (other from)) (kind_in bs₂) (index_in bs₂) (coefficients_in (other from) bs₂)
          ≡ take (size_in from bs) bs
      record_back =
          rw (twice from, reads_back.kind_in_lem, reads_back.index_in_lem, reads_back.whole)
          (record_same from bs (count_in bs) p good)

      code_back : convert_code (other from) bs₂ (length b) ≡ DONE
      code_back =
          code_done (other from) bs₂ (length b)
          (reads_back.code (count_in bs₂) (omega (arith, reads_back.count_in_lem))) even_back
          (omega (arith, size_back, rw done at room))

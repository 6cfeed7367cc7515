-- A record that reads well, in either form, is the record of what was read: it takes those coefficients, and has these
-- bytes.
use Prim.Native.Nat.{ℕ, ◌+◌, ◌*◌, ◌≤◌}
use mathlib.Core.Path.{◌≡◌, refl, sym, ap, ap₂, ◌∙◌}
use mathlib.Core.Bool.{false}
use mathlib.Core.List.{List, ◌++◌}
use native.Mathlib.Omega.{arith}
use native.Mathlib.Nat.{pos_of_ne-zero}
use lib.ListN.{length, take, drop, length-drop}
use lib.Seq.{take-add}
use Rattle.definitions.specs.Halves.{negates}
use Rattle.even_halves.specs.Halves.{length-rebuilt, half-rebuilt, height-rebuilt, rebuilt-uneven}
use Rattle.widths.specs.Numbers.{body, widths, least_of, width}
use Rattle.record.specs.Header.{header_of, kind_in, width_in, index_in, count_in, degree_in}
use Rattle.index.proofs.Laws.{good_index_lem}
use Rattle.widths.proofs.Least.{width_bounds, width_some}
use Rattle.record.proofs.Headers.{right}
use Rattle.record.proofs.HeaderTrips.{header_same, index_small}
use Rattle.widths.proofs.Digits.{Bytes, bytes_drop, body-coefficients}
use Rattle.forms.specs.declared.Form.{Form}
use Rattle.forms.specs.declared.Form.TheVariants.{Whole, Half}
use Rattle.forms.specs.Format.{mark, stored, part, record_of, size, uneven_for, stored_in, coefficients_in, size_in}
use Rattle.forms.specs.Format.{uneven_in}
use Rattle.forms.proofs.Reading.{length-stored}
use Rattle.forms.proofs.Done.{Storable, Read_right}

-- by the form: how many, which are stored, how wide, and that the halves match
pub length_whole : (form : Form) (bs : List ℕ) → length (coefficients_in form bs) ≡ count_in bs
unfolding coefficients_in
length_whole Whole bs = length-stored Whole bs
length_whole Half bs = length-rebuilt (negates (kind_in bs) (index_in bs)) (count_in bs) (stored_in Half bs)

part_read : (form : Form) (bs : List ℕ) → part form (coefficients_in form bs) ≡ stored_in form bs
unfolding coefficients_in
part_read Whole bs = refl
part_read Half bs =
    half-rebuilt (negates (kind_in bs) (index_in bs)) (count_in bs) (stored_in Half bs) (length-stored Half bs)

width_read : (form : Form) (bs : List ℕ) → width (coefficients_in form bs) ≡ width (stored_in form bs)
unfolding coefficients_in width
width_read Whole bs = refl
width_read Half bs =
    ap (least_of widths)
    (height-rebuilt (negates (kind_in bs) (index_in bs)) (count_in bs) (stored_in Half bs) (length-stored Half bs))

even_read : (form : Form) (bs : List ℕ) → uneven_in form bs ≡ false
    → uneven_for form (kind_in bs) (index_in bs) (coefficients_in form bs) ≡ false
unfolding coefficients_in
even_read Whole bs e = refl
even_read Half bs e =
    rebuilt-uneven (negates (kind_in bs) (index_in bs)) (count_in bs) (stored_in Half bs) (length-stored Half bs) ∙ e

module _ (form : Form) (bs : List ℕ) (room : ℕ) (p : Bytes bs) (g : Read_right form bs room) where
  pub width-whole : width (coefficients_in form bs) ≡ width_in bs
  width-whole = width_read form bs ∙ g.wide

  pub storable_read : Storable form (kind_in bs) (index_in bs) (coefficients_in form bs)
  storable_read =
      let r = right (mark form) bs g.header in
      let f = width_some (coefficients_in form bs)
      (λ z. omega (arith, width-whole, (width_bounds (width_in bs) r.wide).0)) in
      record {
        known = r.kind;
        good = good_index_lem (index_in bs) (pos_of_ne-zero r.index) (index_small bs r.long p);
        count = length_whole form bs ∙ (unfold degree_in in r.count);
        within = f.within;
        even = even_read form bs g.even;
      }

  pub size_read : size form (coefficients_in form bs) ≡ size_in form bs
  unfolding size size_in
  size_read = ap₂ (λ (k v : ℕ). 10 + stored form k * v) (length_whole form bs) width-whole

  pub record_same : record_of form (kind_in bs) (index_in bs) (coefficients_in form bs) ≡ take (size_in form bs) bs
  unfolding record_of size_in stored_in
  record_same =
      let v = width_in bs in
      let k = stored form (count_in bs) in
      let r = right (mark form) bs g.header in
      let cs = coefficients_in form bs in
      let long : 10 + k * v ≤ length bs = g.long in
      let head : header_of (mark form) (kind_in bs) (width cs) (index_in bs) (length cs) ≡ take 10 bs =
      ap₂ (λ (x y : ℕ). header_of (mark form) (kind_in bs) x (index_in bs) y) width-whole (length_whole form bs)
      ∙ header_same (mark form) bs p r in
      let tail : body (width cs) (part form cs) ≡ take (k * v) (drop 10 bs) =
      ap₂ body width-whole (part_read form bs)
      ∙ body-coefficients v k (drop 10 bs) (rw length-drop (omega arith)) (bytes_drop 10 bs p) in
      ap₂ ◌++◌ head tail ∙ sym (take-add 10 (k * v) bs)

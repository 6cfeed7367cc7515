-- What is written reads back, in either form: a record of coefficients that the form takes, whatever comes after it,
-- has that kind and index, those coefficients and no fault.
use Prim.Native.Nat.{ℕ, ◌+◌, ◌≤◌, ◌<◌}
use mathlib.Core.Path.{◌≡◌, refl, sym, ap, ap₂, ◌∙◌}
use mathlib.Core.Bool.{false, true≢false}
use mathlib.Core.List.{List, ◌++◌, append_assoc}
use native.Mathlib.Omega.{arith}
use borrow.Author.Tests.{eq-eqb}
use lib.ListN.{length, drop, length-append}
use lib.Seq.{drop_at}
use lib.IntN.{ℤ}
use lib.Dec.{ltb}
use Rattle.definitions.specs.Answer.{height_of}
use Rattle.definitions.specs.Steps.{largest}
use Rattle.definitions.specs.Codes.{DONE}
use Rattle.definitions.specs.Polynomials.{degree}
use Rattle.definitions.specs.Requests.{known_kind}
use Rattle.definitions.specs.Halves.{first_half, negates, rebuilt, uneven}
use Rattle.even_halves.specs.Halves.{length-half, rebuilt-half, height-rebuilt, rebuilt-uneven}
use Rattle.widths.specs.Numbers.{body, widths, one_of, least_of, width}
use Rattle.record.specs.Header.{header_of, kind_in, width_in, index_in, count_in, degree_in}
use Rattle.index.proofs.Laws.{index_good, degree-le}
use Rattle.widths.proofs.Least.{Fitting, width-none, width_some}
use Rattle.widths.proofs.Digits.{coefficients-body}
use Rattle.record.proofs.Headers.{length_header, header_fields, fields-right}
use Rattle.record.proofs.HeaderTrips.{marked_back, kind_back, width_back, index_back, count_back}
use Rattle.forms.specs.declared.Form.{Form}
use Rattle.forms.specs.declared.Form.TheVariants.{Whole, Half}
use Rattle.forms.specs.Format.{mark, stored, part, record_of, size, uneven_for, stored_in, coefficients_in, size_in}
use Rattle.forms.specs.Format.{uneven_in, read_code}
use Rattle.forms.proofs.Done.{Storable}
use Rattle.forms.proofs.Writing.{taken, length_part, length_record, height-take}
use Rattle.forms.proofs.Reading.{code_done}

-- what reads back
pub record Back (form : Form) (kind n : ℕ) (cs : List ℤ) (bs : List ℕ) : Type 0 where
  pub code : (room : ℕ) → length cs ≤ room → read_code form bs room ≡ DONE
  pub kind_in_lem : kind_in bs ≡ kind
  pub index_in_lem : index_in bs ≡ n
  pub count_in_lem : count_in bs ≡ length cs
  pub degree_in_lem : degree_in bs ≡ degree kind n
  pub whole : coefficients_in form bs ≡ cs
  pub size_in_lem : size_in form bs ≡ size form cs

-- such coefficients have a width, which is that of what is stored of them
has_width : (cs : List ℤ) → ltb largest (height_of cs) ≡ false → Fitting cs (width cs)
has_width cs w = width_some cs (λ z. true≢false (sym (width-none cs z) ∙ w))

height-part : (form : Form) (cs : List ℤ) → height_of (part form cs) ≤ height_of cs
height-part form cs = rw (← taken form cs) (height-take (stored form (length cs)) cs)

pub width-part : (form : Form) (kind n : ℕ) (cs : List ℤ) → uneven_for form kind n cs ≡ false
    → width (part form cs) ≡ width cs
unfolding width
width-part Whole kind n cs e = refl
width-part Half kind n cs e =
    ap (least_of widths)
    (sym (height-rebuilt (negates kind n) (length cs) (first_half cs) (length-half cs))
    ∙ ap height_of (rebuilt-half (negates kind n) cs e))

module _ (form : Form) (kind n : ℕ) (cs : List ℤ) (rest : List ℕ) (g : Storable form kind n cs) where
  abbrev w : ℕ
  w = width cs

  -- the header first
  abbrev after : List ℕ
  after = body w (part form cs) ++ rest

  abbrev laid : List ℕ
  laid = header_of (mark form) kind w n (length cs) ++ after

  is_laid : record_of form kind n cs ++ rest ≡ laid
  unfolding record_of
  is_laid = append_assoc (header_of (mark form) kind w n (length cs)) (body w (part form cs)) rest

  reach : (0 < n) × (n ≤ 65535)
  reach = index_good n g.good

  few : length cs ≤ 65536
  few = omega (arith, degree-le kind n, reach.1, g.count)

  counted : count_in laid ≡ length cs
  counted = count_back (mark form) kind w n (length cs) after few

  wide : width_in laid ≡ w
  wide = width_back (mark form) kind w n (length cs) after

  is_kind : kind_in laid ≡ kind
  is_kind = kind_back (mark form) kind w n (length cs) after

  is_index : index_in laid ≡ n
  is_index = index_back (mark form) kind w n (length cs) after reach.1

  true_degree : degree_in laid ≡ degree kind n
  unfolding degree_in
  true_degree = ap₂ degree is_kind is_index

  stored_back : stored_in form laid ≡ part form cs
  unfolding stored_in
  stored_back =
      let f = has_width cs g.within in
      let tail : drop 10 laid ≡ after =
      drop_at (header_of (mark form) kind w n (length cs)) after 10 (length_header (mark form) kind w n (length cs)) in
      rw (wide, counted, tail, ← length_part form cs)
      (coefficients-body w (part form cs) rest f.low (omega (arith, f.takes, height-part form cs)))

  size_back : size_in form laid ≡ size form cs
  unfolding size_in size
  size_back = rw (wide, counted)

  long : size_in form laid ≤ length laid
  long = omega (
    arith,
    size_back,
    ap length (sym is_laid) ∙ length-append (record_of form kind n cs) rest,
    length_record form kind n cs,
  )

  header : 10 ≤ length laid
  header = rw (length-append, length_header) (omega arith)

-- by the form: the whole, and that nothing is uneven
whole_back : (form : Form) (kind n : ℕ) (cs : List ℤ) (rest : List ℕ) (g : Storable form kind n cs)
    → (coefficients_in form (laid form kind n cs rest g) ≡ cs) × (uneven_in form (laid form kind n cs rest g) ≡ false)
unfolding coefficients_in
whole_back Whole kind n cs rest g = (stored_back Whole kind n cs rest g, refl)
whole_back Half kind n cs rest g =
    rw (
      is_kind Half kind n cs rest g,
      is_index Half kind n cs rest g,
      counted Half kind n cs rest g,
      stored_back Half kind n cs rest g,
    ) (
      same,
      sym (rebuilt-uneven (negates kind n) (length cs) (first_half cs) (length-half cs))
          ∙ ap (uneven (negates kind n)) same ∙ g.even,
    )
  where
    same : rebuilt (negates kind n) (length cs) (first_half cs) ≡ cs
    same = rebuilt-half (negates kind n) cs g.even

pub back : (form : Form) (kind n : ℕ) (cs : List ℤ) (rest : List ℕ) → Storable form kind n cs
    → Back form kind n cs (record_of form kind n cs ++ rest)
back form kind n cs rest g =
    let bs = laid form kind n cs rest g in
    let f = has_width cs g.within in
    let c = counted form kind n cs rest g in
    let v = wide form kind n cs rest g in
    let b = whole_back form kind n cs rest g in
    let head = header_fields (mark form) bs (header form kind n cs rest g)
    (marked_back (mark form) kind (width cs) n (length cs) (after form kind n cs rest g))
    ∙ fields-right bs (ap known_kind (is_kind form kind n cs rest g) ∙ g.known) (ap (one_of widths) v ∙ f.one)
    (λ z. omega (arith, is_index form kind n cs rest g, (reach form kind n cs rest g).0))
    (c ∙ g.count ∙ ap (λ (d : ℕ). d + 1) (sym (true_degree form kind n cs rest g))) in
    let right : width (stored_in form bs) ≡ width_in bs =
    ap width (stored_back form kind n cs rest g) ∙ width-part form kind n cs g.even ∙ sym v in
    rw (is_laid form kind n cs rest g)
    (record {
      code =
          λ room h. code_done form bs room head (long form kind n cs rest g) (omega (arith, c))
          (eq-eqb (width (stored_in form bs)) (width_in bs) right) b.1;
      kind_in_lem = is_kind form kind n cs rest g;
      index_in_lem = is_index form kind n cs rest g;
      count_in_lem = c;
      degree_in_lem = true_degree form kind n cs rest g;
      whole = b.0;
      size_in_lem = size_back form kind n cs rest g;
    })

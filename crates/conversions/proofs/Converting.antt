-- Converting: the answers, a code each, from the tests that led there; and what the stores leave.
use Prim.Native.Nat.{ℕ, zero, suc, ◌+◌, ◌*◌, ◌≤◌, ◌<◌}
use mathlib.Core.Path.{◌≡◌, refl, sym, ap, ap₂, ◌∙◌}
use mathlib.Core.Bool.{Bool, true, false, cond, not, true≢false}
use mathlib.Core.List.{List, [], ◌∷◌, ◌++◌, append_assoc}
use native.Mathlib.Omega.{arith}
use native.Mathlib.Nat.{zero-add, mul-le-mul_right}
use lib.ListN.{length, set, take, drop, length-append, length-drop, take-append-drop}
use lib.Seq.{sets, sets-eq, take-add}
use lib.IntN.{ℤ}
use lib.Dec.{eqb, ltb}
use borrow.Author.Tests.{ne_eqb, lt-ltb, le-ltb}
use Rattle.definitions.specs.Codes.{DONE, SHORT, CUT, WIDTH, UNEVEN}
use Rattle.definitions.specs.Halves.{half_of, first_half, negates, rebuilt}
use Rattle.even_halves.specs.Halves.{half-rebuilt, length-rebuilt}
use Rattle.widths.specs.Numbers.{bytes_of, twos, body, coefficients_at, width}
use Rattle.widths.proofs.Digits.{Bytes, bytes_drop, body-coefficients}
use Rattle.record.specs.Header.{header_of, fields, kind_in, width_in, index_in, count_in, degree_in, header_code, byte_of}
use Rattle.record.proofs.Headers.{right, length_header, header_codes}
use Rattle.record.proofs.HeaderTrips.{header_same}
use Rattle.record.proofs.Passes.{length-body, sets-append}
use Rattle.half_passes.proofs.Places.{coefficients-take}
use Rattle.forms.specs.declared.Form.{Form}
use Rattle.forms.specs.declared.Form.TheVariants.{Whole, Half}
use Rattle.forms.specs.Format.{mark, stored, record_of, size, uneven_for, stored_in, coefficients_in, size_in}
use Rattle.forms.specs.Format.{uneven_in, read_code, look_code}
use Rattle.forms.proofs.Done.{looked}
use Rattle.forms.proofs.Writing.{length_record}
use Rattle.forms.proofs.Reading.{length-stored, stored-le}
use Rattle.forms.proofs.ReadWrite.{length_whole, width-whole}
use Rattle.conversions.specs.declared.Converted.{Converted}
use Rattle.conversions.specs.Converting.{other, convert_code, convert_tells, convert_answer, convert_leaves}
use Rattle.conversions.specs.Front.{front}

-- the look never gives SHORT: there is room enough
pub look_not-short : (form : Form) (bs : List ℕ) → look_code form bs ≡ SHORT → ⊥
unfolding look_code read_code
look_not-short form bs =
    go (header_code (mark form) bs) refl (ltb (length bs) (size_in form bs)) (ltb (count_in bs) (count_in bs))
    (le-ltb (count_in bs) (count_in bs) (omega arith)) (eqb (width (stored_in form bs)) (width_in bs)) (uneven_in form bs)
  where
    go : (h : ℕ) → header_code (mark form) bs ≡ h → (s r : Bool) → r ≡ false → (w u : Bool)
        → cond (not (eqb h DONE)) h (cond s CUT (cond r SHORT (cond (not w) WIDTH (cond u UNEVEN DONE)))) ≡ SHORT → ⊥
    go (suc h) eh s r er w u e = header_codes (mark form) bs (eh ∙ (rw (ne_eqb (suc h) 0 (λ z. omega arith)) at e))
    go zero eh true r er w u e = omega arith
    go zero eh false true er w u e = true≢false er
    go zero eh false false er false u e = omega arith
    go zero eh false false er true true e = omega arith
    go zero eh false false er true false e = omega arith

-- the code
module _ (from : Form) (bs : List ℕ) (room : ℕ) where
  pub code_looked : (code : ℕ) → code ≡ look_code from bs → (code ≡ DONE → ⊥) → convert_code from bs room ≡ code
  unfolding convert_code
  code_looked code e z = rw (← e, ne_eqb code DONE z)

  module _ (l : look_code from bs ≡ DONE) where
    pub code-uneven : uneven_for (other from) (kind_in bs) (index_in bs) (coefficients_in from bs) ≡ true
        → convert_code from bs room ≡ UNEVEN
    unfolding convert_code
    code-uneven u = rw (l, u)

    module _ (u : uneven_for (other from) (kind_in bs) (index_in bs) (coefficients_in from bs) ≡ false) where
      pub code-short : room < size (other from) (coefficients_in from bs) → convert_code from bs room ≡ SHORT
      unfolding convert_code
      code-short s = rw (l, u, lt-ltb room (size (other from) (coefficients_in from bs)) s)

      pub code_done : size (other from) (coefficients_in from bs) ≤ room → convert_code from bs room ≡ DONE
      unfolding convert_code
      code_done s = rw (l, u, le-ltb room (size (other from) (coefficients_in from bs)) s)

-- all that hangs on it
module _ (from : Form) (bs out : List ℕ) where
  abbrev pub Answered : Converted → List ℕ → Type 0
  Answered r out' = (r ≡ convert_answer from bs (length out)) × (out' ≡ convert_leaves from bs out)

  pub by_code : (code : ℕ) → convert_code from bs (length out) ≡ code →
      Answered (convert_tells from bs code)
      (cond (eqb code DONE)
      (record_of (other from) (kind_in bs) (index_in bs) (coefficients_in from bs)
      ++ drop (size (other from) (coefficients_in from bs)) out) out)
  unfolding convert_answer convert_leaves
  by_code code e = rw e (refl, refl)

  pub refused_look : (code b : ℕ) → code ≡ look_code from bs → (code ≡ DONE → ⊥) → b ≡ byte_of fields code
      → Answered (record { code = code; degree = 0; read = 0; written = 0; byte = b }) out
  unfolding convert_tells
  refused_look code b e z eb =
      let ns : eqb code SHORT ≡ false = ne_eqb code SHORT (λ s. look_not-short from bs (sym e ∙ s)) in
      rw eb (rw (ne_eqb code DONE z, ns) at (by_code code (code_looked from bs (length out) code e z)))

-- what is told where nothing is refused, and the degree with SHORT, as the function works them out
pub degree-told : (d e : ℕ) → d ≡ e →
    ◌≡◌ {A = Converted} (record { code = SHORT; degree = d; read = 0; written = 0; byte = 0 })
    (record { code = SHORT; degree = e; read = 0; written = 0; byte = 0 })
degree-told d e p = rw p

pub all_told : (from : Form) (bs : List ℕ) (d r w : ℕ) → d ≡ degree_in bs → r ≡ size_in from bs
    → w ≡ size (other from) (coefficients_in from bs)
    → record { code = DONE; degree = d; read = r; written = w; byte = 0 } ≡ convert_tells from bs DONE
unfolding convert_tells byte_of
all_told from bs d r w ed er ew = rw (ed, er, ew)

-- the sizes
pub half_least : (form : Form) (bs : List ℕ) → size_in Half bs ≤ size_in form bs
unfolding size_in
half_least Whole bs = omega (arith, mul-le-mul_right (width_in bs) (stored-le Half (count_in bs)))
half_least Half bs = omega arith

body-append : (w : ℕ) (xs ys : List ℤ) → body w (xs ++ ys) ≡ body w xs ++ body w ys
unfolding body
body-append w [] ys = refl
body-append w (x ∷ xs) ys =
    ap (λ (l : List ℕ). bytes_of w (twos w x) ++ l) (body-append w xs ys)
    ∙ sym (append_assoc (bytes_of w (twos w x)) (body w xs) (body w ys))

module _ (from : Form) (bs : List ℕ) (p : Bytes bs) (l : look_code from bs ≡ DONE) where
  pub size-other : (to : Form) → size to (coefficients_in from bs) ≡ size_in to bs
  unfolding size size_in
  size-other to =
      ap₂ (λ (k v : ℕ). 10 + stored to k * v) (length_whole from bs)
      (width-whole from bs (count_in bs) p (looked from bs l))

  -- the first bytes are what both forms have
  front_is : take (size_in Half bs) bs ≡ front from bs
  unfolding size_in front stored_in
  front_is =
      let w = width_in bs in
      let h = half_of (count_in bs) in
      let g = looked from bs l in
      let long : 10 + h * w ≤ length bs = omega (arith, half_least from bs, g.long) in
      take-add 10 (h * w) bs
      ∙ ap₂ ◌++◌ (sym (header_same (mark from) bs p (right (mark from) bs g.header)))
      (sym (body-coefficients w h (drop 10 bs) (rw length-drop (omega arith)) (bytes_drop 10 bs p)))

  pub length_front : (m : Form) → length (front m bs) ≡ size_in Half bs
  unfolding front size_in
  length_front m = rw (length-append, length_header, length-body, length-stored)

  pub front-stored : (out cut : List ℕ) (s m : ℕ) → size_in Half bs ≤ length out → s ≡ size_in Half bs
      → m ≡ mark (other from) → cut ≡ sets out 0 (take s bs) → set cut 1 m
      ≡ front (other from) bs ++ drop (size_in Half bs) out
  front-stored out cut s m fits es em e =
      let first : sets out 0 (front from bs) ≡ front from bs ++ drop (size_in Half bs) out =
      sets-eq (front from bs) out 0 (omega (arith, length_front from))
      ∙ rw (zero-add, length_front from) in
      rw (em, e, es, front_is, first) marked_anew
    where
      marked_anew : set (front from bs ++ drop (size_in Half bs) out) 1 (mark (other from))
          ≡ front (other from) bs ++ drop (size_in Half bs) out
      marked_anew = unfold front header_of in refl

-- which is all of a half record
pub front_record : (bs : List ℕ) → Bytes bs → look_code Whole bs ≡ DONE
    → front Half bs ≡ record_of Half (kind_in bs) (index_in bs) (coefficients_in Whole bs)
unfolding front record_of first_half coefficients_in
front_record bs p l =
    let cs = stored_in Whole bs in
    let long : length cs ≡ count_in bs = length-stored Whole bs in
    let wide : width cs ≡ width_in bs = (looked Whole bs l).wide in
    let half : take (half_of (length cs)) cs ≡ stored_in Half bs =
    ap (λ (k : ℕ). take (half_of k) cs) long
    ∙ (unfold stored_in in
    coefficients-take (width_in bs) (half_of (count_in bs)) (count_in bs) (drop 10 bs) (omega arith)) in
    rw (half, wide, long)

-- and of a whole one what stands before the other half
abbrev pub other_half : List ℕ → List ℕ
other_half bs = body (width_in bs) (drop (half_of (count_in bs)) (coefficients_in Half bs))

pub placed : (bs l₁ l₂ : List ℕ) (w k : ℕ) (negate : Bool) → w ≡ width_in bs → k ≡ count_in bs
    → negate ≡ negates (kind_in bs) (index_in bs)
    → l₂ ≡ sets l₁ (10 + half_of k * w)
    (body w (drop (half_of k) (rebuilt negate k (coefficients_at w (half_of k) (drop 10 bs)))))
    → l₂ ≡ sets l₁ (size_in Half bs) (other_half bs)
unfolding size_in coefficients_in stored_in
placed bs l₁ l₂ w k negate ew ek en e = e ∙ rw (ew, ek, en)

module _ (bs : List ℕ) (p : Bytes bs) (l : look_code Half bs ≡ DONE) where
  -- the halves of the body, one after the other
  halves : stored_in Half bs ++ drop (half_of (count_in bs)) (coefficients_in Half bs) ≡ coefficients_in Half bs
  unfolding coefficients_in first_half
  halves =
      let negate = negates (kind_in bs) (index_in bs) in
      let cs = rebuilt negate (count_in bs) (stored_in Half bs) in
      let first : take (half_of (count_in bs)) cs ≡ stored_in Half bs =
      ap (λ (k : ℕ). take (half_of k) cs) (sym (length-rebuilt negate (count_in bs) (stored_in Half bs)))
      ∙ half-rebuilt negate (count_in bs) (stored_in Half bs) (length-stored Half bs) in
      ap (λ (x : List ℤ). x ++ drop (half_of (count_in bs)) cs) (sym first) ∙ take-append-drop (half_of (count_in bs)) cs

  is_record_lem : front Whole bs ++ other_half bs ≡ record_of Whole (kind_in bs) (index_in bs) (coefficients_in Half bs)
  unfolding front record_of
  is_record_lem =
      let w = width_in bs in
      let cs = coefficients_in Half bs in
      let head = header_of (mark Whole) (kind_in bs) w (index_in bs) (count_in bs) in
      let long : length cs ≡ count_in bs = length_whole Half bs in
      let wide : width cs ≡ w = width-whole Half bs (count_in bs) p (looked Half bs l) in
      append_assoc head (body w (stored_in Half bs)) (other_half bs)
      ∙ ap (λ (x : List ℕ). head ++ x)
      (sym (body-append w (stored_in Half bs) (drop (half_of (count_in bs)) cs)) ∙ ap (body w) halves)
      ∙ ap₂ (λ (x y : ℕ). header_of (mark Whole) (kind_in bs) x (index_in bs) y ++ body x cs) (sym wide) (sym long)

  pub whole-stored : (out l₁ l₂ : List ℕ) → size_in Whole bs ≤ length out
      → l₁ ≡ front Whole bs ++ drop (size_in Half bs) out → l₂ ≡ sets l₁ (size_in Half bs) (other_half bs)
      → l₂ ≡ record_of Whole (kind_in bs) (index_in bs) (coefficients_in Half bs) ++ drop (size_in Whole bs) out
  whole-stored out l₁ l₂ fits e₁ e₂ =
      let before = front Whole bs in
      let record_of_lem = record_of Whole (kind_in bs) (index_in bs) (coefficients_in Half bs) in
      let size_of : length record_of_lem ≡ size_in Whole bs =
      length_record Whole (kind_in bs) (index_in bs) (coefficients_in Half bs) ∙ size-other Half bs p l Whole in
      let long = length_front Half bs p l Whole in
      let first : sets out 0 before ≡ before ++ drop (size_in Half bs) out =
      sets-eq before out 0 (omega (arith, long, half_least Whole bs)) ∙ rw (zero-add, long) in
      let joined : sets out 0 (before ++ other_half bs) ≡ sets (sets out 0 before) (size_in Half bs) (other_half bs) =
      sets-append out 0 before (other_half bs) ∙ rw (zero-add, long) in
      let all : sets out 0 record_of_lem ≡ record_of_lem ++ drop (size_in Whole bs) out =
      sets-eq record_of_lem out 0 (omega (arith, size_of)) ∙ rw (zero-add, size_of) in
      e₂ ∙ ap (λ (x : List ℕ). sets x (size_in Half bs) (other_half bs)) (e₁ ∙ sym first) ∙ sym joined
      ∙ ap (sets out 0) is_record_lem ∙ all

-- what is stored, as the functions have it
pub stored_as : (form : Form) (bs : List ℕ) (w k : ℕ) → w ≡ width_in bs → k ≡ stored form (count_in bs)
    → coefficients_at w k (drop 10 bs) ≡ stored_in form bs
unfolding stored_in
stored_as form bs w k ew ek = rw (ew, ek)

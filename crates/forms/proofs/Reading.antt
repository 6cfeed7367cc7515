-- The reader's answers, a code each, from the tests that led there; and what the pass that stores leaves. Over the
-- form.
use Prim.Native.Nat.{ℕ, zero, suc, ◌+◌, ◌*◌, ◌/◌, ◌%◌, ◌≤◌, ◌<◌}
use mathlib.Core.Path.{◌≡◌, refl, sym, ap, ◌∙◌}
use mathlib.Core.Bool.{Bool, true, false, cond, not, ◌&&◌}
use mathlib.Core.List.{List, ◌++◌}
use native.Mathlib.Omega.{arith}
use native.Mathlib.Nat.{zero-add}
use lib.ListN.{length, drop}
use lib.Seq.{sets, sets-eq}
use lib.IntN.{ℤ, nat_abs}
use lib.Dec.{eqb, ltb}
use borrow.Author.Tests.{eq-eqb, ne_eqb, lt-ltb, le-ltb}
use Rattle.definitions.specs.Codes.{DONE, SHORT, CUT, WIDTH, UNEVEN}
use Rattle.definitions.specs.Steps.{entries}
use Rattle.definitions.specs.Halves.{half_of, negates, middle_wrong}
use Rattle.widths.specs.Numbers.{signed_of, coefficients_at, width}
use Rattle.record.specs.Header.{fields, kind_in, width_in, index_in, count_in, degree_in, header_code, byte_of}
use Rattle.index.proofs.Laws.{degree-le}
use Rattle.widths.proofs.Digits.{Bytes, zero-signed}
use Rattle.record.specs.Held.{number_at}
use Rattle.record.proofs.Passes.{length_at, entry_at}
use Rattle.record.proofs.Headers.{right, header_codes}
use Rattle.record.proofs.HeaderTrips.{index_small}
use Rattle.forms.specs.declared.Form.{Form}
use Rattle.forms.specs.declared.Form.TheVariants.{Whole, Half}
use Rattle.forms.specs.declared.Record.{Record}
use Rattle.forms.specs.Format.{mark, stored, stored_in, coefficients_in, size_in, uneven_in, read_code, read_tells}
use Rattle.forms.specs.Format.{read_answer, read_leaves, look_code}

-- the code, whatever the room
module _ (form : Form) (bs : List ℕ) (room : ℕ) where
  pub code_header : (code : ℕ) → code ≡ header_code (mark form) bs → (code ≡ DONE → ⊥) → read_code form bs room ≡ code
  unfolding read_code
  code_header code h z = rw (← h, ne_eqb code DONE z)

  module _ (h : header_code (mark form) bs ≡ DONE) where
    pub code_cut : length bs < size_in form bs → read_code form bs room ≡ CUT
    unfolding read_code
    code_cut s = simp (h, lt-ltb (length bs) (size_in form bs) s)

    module _ (s : size_in form bs ≤ length bs) where
      pub code-short : room < count_in bs → read_code form bs room ≡ SHORT
      unfolding read_code
      code-short r = simp (h, le-ltb (length bs) (size_in form bs) s, lt-ltb room (count_in bs) r)

      module _ (r : count_in bs ≤ room) where
        pub code_wide : eqb (width (stored_in form bs)) (width_in bs) ≡ false → read_code form bs room ≡ WIDTH
        unfolding read_code
        code_wide w = simp (h, le-ltb (length bs) (size_in form bs) s, le-ltb room (count_in bs) r, w)

        module _ (w : eqb (width (stored_in form bs)) (width_in bs) ≡ true) where
          pub code-uneven : uneven_in form bs ≡ true → read_code form bs room ≡ UNEVEN
          unfolding read_code
          code-uneven u = simp (h, le-ltb (length bs) (size_in form bs) s, le-ltb room (count_in bs) r, w, u)

          pub code_done : uneven_in form bs ≡ false → read_code form bs room ≡ DONE
          unfolding read_code
          code_done u = simp (h, le-ltb (length bs) (size_in form bs) s, le-ltb room (count_in bs) r, w, u)

-- all that hangs on the code
module _ (form : Form) (bs : List ℕ) (cs : List ℤ) where
  abbrev pub Answered : Record → List ℤ → Type 0
  Answered r cs' = (r ≡ read_answer form bs (length cs)) × (cs' ≡ read_leaves form bs cs)

  pub by_code : (code : ℕ) → read_code form bs (length cs) ≡ code →
      Answered (read_tells form bs code) (cond (eqb code DONE) (coefficients_in form bs ++ drop (count_in bs) cs) cs)
  unfolding read_answer read_leaves
  by_code code e = rw e (refl, refl)

  pub refused : (code : ℕ) → read_code form bs (length cs) ≡ code → (code ≡ DONE → ⊥)
      → Answered (read_tells form bs code) cs
  refused code e z = rw (ne_eqb code DONE z) at (by_code code e)

pub length-stored : (form : Form) (bs : List ℕ) → length (stored_in form bs) ≡ stored form (count_in bs)
unfolding stored_in
length-stored form bs = length_at (width_in bs) (stored form (count_in bs)) (drop 10 bs)

-- what is told, as the function works it out
pub all_told : (form : Form) (bs : List ℕ) (d s kind n : ℕ) → d ≡ degree_in bs → s ≡ size_in form bs → kind ≡ kind_in bs
    → n ≡ index_in bs
    → record { code = DONE; degree = d; used = s; kind = kind; n = n; byte = 0 } ≡ read_tells form bs DONE
unfolding read_tells byte_of
all_told form bs d s kind n ed es ek en = rw (ed, es, ek, en)

pub short-told : (form : Form) (bs : List ℕ) (d : ℕ) → d ≡ degree_in bs
    → record { code = SHORT; degree = d; used = 0; kind = 0; n = 0; byte = 0 } ≡ read_tells form bs SHORT
unfolding read_tells byte_of
short-told form bs d ed = rw ed

pub other-told : (form : Form) (bs : List ℕ) (code b : ℕ) → (code ≡ DONE → ⊥) → (code ≡ SHORT → ⊥)
    → b ≡ byte_of fields code
    → record { code = code; degree = 0; used = 0; kind = 0; n = 0; byte = b } ≡ read_tells form bs code
unfolding read_tells
other-told form bs code b nd ns e = simp (ne_eqb code DONE nd, ne_eqb code SHORT ns, e)

-- as the functions have it, with w and k for the width in the header and the number of stored coefficients
module _ (form : Form) (bs : List ℕ) (w k : ℕ) (ew : w ≡ width_in bs) (ek : k ≡ stored form (count_in bs)) where
  pub size_in_lem : 10 + k * w ≡ size_in form bs
  unfolding size_in
  size_in_lem = rw (ew, ek)

  pub seen_in : eqb (width (coefficients_at w k (drop 10 bs))) w ≡ eqb (width (stored_in form bs)) (width_in bs)
  unfolding stored_in
  seen_in = rw (ew, ek)

  pub filled_in : (cs cs' : List ℤ) → k ≤ length cs → cs' ≡ sets cs 0 (coefficients_at w k (drop 10 bs)) →
      cs' ≡ stored_in form bs ++ drop (length (stored_in form bs)) cs
  unfolding stored_in
  filled_in cs cs' r e =
      let l = coefficients_at w k (drop 10 bs) in
      let n : length l ≡ k = length_at w k (drop 10 bs) in
      let whole : sets cs 0 l ≡ l ++ drop (length l) cs = sets-eq l cs 0 (omega arith) ∙ rw zero-add in
      e ∙ whole ∙ rw (ew, ek)

-- a record has its header at least
pub size_least : (form : Form) (bs : List ℕ) → 10 ≤ size_in form bs
unfolding size_in
size_least form bs = omega arith

-- no more are stored than there are
pub stored-le : (form : Form) (count : ℕ) → stored form count ≤ count
stored-le Whole count = omega arith
stored-le Half count = omega arith

-- a right header's count is small
module _ (m : ℕ) (bs : List ℕ) (h : header_code m bs ≡ DONE) (bytes : Bytes bs) where
  pub count_small : count_in bs ≤ 65536
  unfolding degree_in
  count_small =
      omega (
        arith,
        (right m bs h).count,
        degree-le (kind_in bs) (index_in bs),
        index_small bs (right m bs h).long bytes,
      )

-- the header is right where SHORT is given
pub short_header : (form : Form) (bs : List ℕ) (room : ℕ) → read_code form bs room ≡ SHORT
    → header_code (mark form) bs ≡ DONE
short_header form bs room e = go (header_code (mark form) bs) refl
  where
    go : (h : ℕ) → header_code (mark form) bs ≡ h → h ≡ DONE
    go zero eh = refl
    go (suc h) eh =
        let told = code_header form bs room (suc h) (sym eh) (λ z. omega arith) in
        absurd (header_codes (mark form) bs (eh ∙ sym told ∙ e))

-- room for 65,536 coefficients is room enough
pub look_room : (form : Form) (bs : List ℕ) → Bytes bs → read_code form bs 65536 ≡ look_code form bs
unfolding look_code read_code
look_room form bs bytes = go (header_code (mark form) bs) refl
  where
    go : (h : ℕ) → header_code (mark form) bs ≡ h → read_code form bs 65536 ≡ read_code form bs (count_in bs)
    go zero eh =
        let many : ltb 65536 (count_in bs) ≡ false = le-ltb 65536 (count_in bs) (count_small (mark form) bs eh bytes) in
        let same : ltb (count_in bs) (count_in bs) ≡ false = le-ltb (count_in bs) (count_in bs) (omega arith) in
        rw (many, same)
    go (suc h) eh =
        code_header form bs 65536 (suc h) (sym eh) (λ z. omega arith)
        ∙ sym (code_header form bs (count_in bs) (suc h) (sym eh) (λ z. omega arith))

-- the middle of a half record, by the number v that stands there
module _ (bs : List ℕ) where
  abbrev signs : Bool
  signs = negates (kind_in bs) (index_in bs)

  pub middle_plain : signs ≡ false → false ≡ uneven_in Half bs
  unfolding middle_wrong
  middle_plain e = rw e

  pub middle_none : count_in bs % 2 ≡ 0 → false ≡ uneven_in Half bs
  unfolding middle_wrong
  middle_none e = rw (ne_eqb (count_in bs % 2) 1 (omega arith)) (go signs)
    where
      go : (b : Bool) → false ≡ (b && false && not (eqb (nat_abs (entries (stored_in Half bs) (count_in bs / 2))) 0))
      go true = refl
      go false = refl

  pub middle_is : (v w : ℕ) → w ≡ width_in bs → v ≡ number_at w (10 + count_in bs / 2 * w) bs → signs ≡ true
      → (count_in bs % 2 ≡ 0 → ⊥) → not (eqb v 0) ≡ uneven_in Half bs
  unfolding middle_wrong stored_in
  middle_is v w ew ev s odd =
      let k = count_in bs / 2 in
      let there : entries (coefficients_at w (half_of (count_in bs)) (drop 10 bs)) k ≡ signed_of w v =
      sym (entry_at w (half_of (count_in bs)) k bs (omega arith)) ∙ ap (signed_of w) (sym ev) in
      rw (s, eq-eqb (count_in bs % 2) 1 (omega arith), ← ew, there, zero-signed w v)

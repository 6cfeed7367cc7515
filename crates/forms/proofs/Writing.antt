-- The writer's answers, a code each, from the tests that led there; and what the stores leave. Over the form.
use Prim.Native.Nat.{ℕ, zero, suc, ◌+◌, ◌*◌, ◌≤◌, ◌<◌, zero-le}
use mathlib.Core.Path.{◌≡◌, refl, sym, ◌∙◌}
use mathlib.Core.Bool.{true, false, cond}
use mathlib.Core.List.{List, [], ◌∷◌, ◌++◌}
use native.Mathlib.Omega.{arith}
use native.Mathlib.Nat.{zero-add}
use lib.ListN.{length, take, drop, length-append}
use lib.Seq.{sets, sets-eq, take_all}
use lib.IntN.{ℤ}
use lib.Dec.{eqb, ltb}
use borrow.Author.Tests.{eq-eqb, ne_eqb, lt-ltb, le-ltb}
use Rattle.definitions.specs.Answer.{height_of}
use Rattle.definitions.specs.Codes.{DONE, KIND, INDEX, SHORT, OVER, RCOUNT, UNEVEN}
use Rattle.definitions.specs.Polynomials.{degree}
use Rattle.definitions.specs.Requests.{known_kind, good_index}
use Rattle.definitions.specs.Steps.{largest}
use Rattle.widths.specs.Numbers.{body, width}
use Rattle.record.specs.Header.{header_of, byte_of}
use Rattle.definitions.specs.Halves.{first_half}
use Rattle.even_halves.specs.Halves.{length-half}
use Rattle.record.proofs.Passes.{sets-append, length-body}
use Rattle.record.proofs.Headers.{length_header}
use Rattle.forms.specs.declared.Form.{Form}
use Rattle.forms.specs.declared.Form.TheVariants.{Whole, Half}
use Rattle.forms.specs.declared.Written.{Written}
use Rattle.forms.specs.Format.{mark, stored, part, record_of, size, uneven_for, write_code, write_tells}
use Rattle.forms.specs.Format.{write_answer, write_leaves}

-- what is stored: the first so many
pub taken : (form : Form) (cs : List ℤ) → take (stored form (length cs)) cs ≡ part form cs
unfolding first_half
taken Whole cs = take_all (length cs) cs (omega arith)
taken Half cs = refl

pub length_part : (form : Form) (cs : List ℤ) → length (part form cs) ≡ stored form (length cs)
length_part Whole cs = refl
length_part Half cs = length-half cs

pub length_record : (form : Form) (kind n : ℕ) (cs : List ℤ) → length (record_of form kind n cs) ≡ size form cs
unfolding record_of size
length_record form kind n cs =
    rw (length-append, length_header, length-body (width cs) (part form cs), length_part form cs)

module _ (form : Form) (kind n : ℕ) (cs : List ℤ) (b : List ℕ) where
  abbrev pub Answered : Written → List ℕ → Type 0
  Answered r b' = (r ≡ write_answer form kind n cs (length b)) × (b' ≡ write_leaves form kind n cs b)

  -- all that hangs on the code
  by_code : (code : ℕ) → write_code form kind n cs (length b) ≡ code →
      Answered (write_tells form kind n cs code)
      (cond (eqb code DONE) (record_of form kind n cs ++ drop (size form cs) b) b)
  unfolding write_answer write_leaves
  by_code code e = rw e (refl, refl)

  pub kind-wrong : known_kind kind ≡ false → Answered (write_tells form kind n cs KIND) b
  unfolding write_code
  kind-wrong k = by_code KIND (simp k)

  module _ (k : known_kind kind ≡ true) where
    pub index-wrong : good_index n ≡ false → Answered (write_tells form kind n cs INDEX) b
    unfolding write_code
    index-wrong i = by_code INDEX (simp (k, i))

    module _ (i : good_index n ≡ true) where
      pub count-wrong : (length cs ≡ degree kind n + 1 → ⊥) → Answered (write_tells form kind n cs RCOUNT) b
      unfolding write_code
      count-wrong m = by_code RCOUNT (simp (k, i, ne_eqb (length cs) (degree kind n + 1) m))

      module _ (m : length cs ≡ degree kind n + 1) where
        pub too_low : ltb largest (height_of cs) ≡ true → Answered (write_tells form kind n cs OVER) b
        unfolding write_code
        too_low o = by_code OVER (simp (k, i, eq-eqb (length cs) (degree kind n + 1) m, o))

        module _ (o : ltb largest (height_of cs) ≡ false) where
          pub halves_unlike : uneven_for form kind n cs ≡ true → Answered (write_tells form kind n cs UNEVEN) b
          unfolding write_code
          halves_unlike u = by_code UNEVEN (simp (k, i, eq-eqb (length cs) (degree kind n + 1) m, o, u))

          module _ (u : uneven_for form kind n cs ≡ false) where
            pub no_room : length b < size form cs → Answered (write_tells form kind n cs SHORT) b
            unfolding write_code
            no_room s =
                by_code SHORT
                (simp (k, i, eq-eqb (length cs) (degree kind n + 1) m, o, u, lt-ltb (length b) (size form cs) s))

            pub stored-whole : size form cs ≤ length b
                → Answered (write_tells form kind n cs DONE) (record_of form kind n cs ++ drop (size form cs) b)
            unfolding write_code
            stored-whole s =
                by_code DONE
                (simp (k, i, eq-eqb (length cs) (degree kind n + 1) m, o, u, le-ltb (length b) (size form cs) s))

-- what is told where nothing is refused, and the degree with a refusal, as the function works them out
pub degree-told : (code d e : ℕ) → d ≡ e →
    ◌≡◌ {A = Written} (record { code = code; degree = d; used = 0; byte = 0 })
    (record { code = code; degree = e; used = 0; byte = 0 })
degree-told code d e p = rw p

pub all_told : (form : Form) (kind n : ℕ) (cs : List ℤ) (d s : ℕ) → d ≡ degree kind n → s ≡ size form cs →
    record { code = DONE; degree = d; used = s; byte = 0 } ≡ write_tells form kind n cs DONE
unfolding write_tells byte_of
all_told form kind n cs d s ed es = rw (ed, es)

-- header and body stored one after the other are the record, with the rest as it was
pub record_made : (form : Form) (kind n w k : ℕ) (cs : List ℤ) (b b₁ b₂ : List ℕ) → w ≡ width cs
    → k ≡ stored form (length cs) → size form cs ≤ length b
    → b₁ ≡ sets b 0 (header_of (mark form) kind w n (length cs)) → b₂ ≡ sets b₁ 10 (body w (take k cs))
    → b₂ ≡ record_of form kind n cs ++ drop (size form cs) b
unfolding record_of
record_made form kind n w k cs b b₁ b₂ ew ek s e₁ e₂ =
    rw (e₂, e₁, ew, ek, taken form cs) stored_as
  where
    h : List ℕ
    h = header_of (mark form) kind (width cs) n (length cs)

    r : List ℕ
    r = body (width cs) (part form cs)

    stored_as : sets (sets b 0 h) 10 r ≡ record_of form kind n cs ++ drop (size form cs) b
    stored_as =
        let long : length (h ++ r) ≡ size form cs = length_record form kind n cs in
        let whole : sets b 0 (h ++ r) ≡ sets (sets b 0 h) 10 r = rw (sets-append, length_header) in
        sym whole ∙ sets-eq (h ++ r) b 0 (omega arith) ∙ rw (long, zero-add)

pub size-made : (form : Form) (cs : List ℤ) (w k : ℕ) → w ≡ width cs → k ≡ stored form (length cs)
    → 10 + k * w ≡ size form cs
unfolding size
size-made form cs w k ew ek = rw (ew, ek)

-- what is stored is no taller than all
pub height-take : (k : ℕ) (cs : List ℤ) → height_of (take k cs) ≤ height_of cs
unfolding height_of
height-take zero cs = zero-le
height-take (suc k) [] = zero-le
height-take (suc k) (c ∷ cs) = omega (arith, height-take k cs)

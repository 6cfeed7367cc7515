-- What a writer or a reader was given that refuses nothing: the codes read backwards.
use Prim.Native.Nat.{ℕ, zero, suc, ◌+◌, ◌≤◌}
use mathlib.Core.Path.{◌≡◌, refl, sym}
use mathlib.Core.Bool.{Bool, true, false, cond, not}
use mathlib.Core.List.{List}
use native.Mathlib.Omega.{arith}
use lib.ListN.{length}
use lib.IntN.{ℤ}
use lib.Dec.{eqb, ltb, eqb-suc-zero}
use borrow.Author.Tests.{eqb-true, ltb-false}
use Rattle.definitions.specs.Answer.{height_of}
use Rattle.definitions.specs.Polynomials.{degree}
use Rattle.definitions.specs.Requests.{known_kind, good_index}
use Rattle.definitions.specs.Steps.{largest}
use Rattle.definitions.specs.Codes.{DONE, KIND, INDEX, SHORT, OVER, CUT, WIDTH, RCOUNT, UNEVEN}
use Rattle.widths.specs.Numbers.{width}
use Rattle.widths.proofs.Least.{Fitting, width_bounds, width_fits}
use Rattle.record.specs.Header.{width_in, count_in, header_code}
use Rattle.record.proofs.Headers.{right}
use Rattle.forms.specs.declared.Form.{Form}
use Rattle.forms.specs.Format.{mark, size, uneven_for, write_code, stored_in, size_in, uneven_in, read_code, look_code}

-- what a form takes, where there is room for it
pub record Storable (form : Form) (kind n : ℕ) (cs : List ℤ) : Type 0 where
  pub known : known_kind kind ≡ true
  pub good : good_index n ≡ true
  pub count : length cs ≡ degree kind n + 1
  pub within : ltb largest (height_of cs) ≡ false
  pub even : uneven_for form kind n cs ≡ false

-- what a writer that refuses nothing was given
pub record Written_right (form : Form) (kind n : ℕ) (cs : List ℤ) (room : ℕ) : Type 0 where
  pub storable : Storable form kind n cs
  pub fits : size form cs ≤ room

pub written-right : (form : Form) (kind n : ℕ) (cs : List ℤ) (room : ℕ) → write_code form kind n cs room ≡ DONE
    → Written_right form kind n cs room
unfolding write_code
written-right form kind n cs room =
    go (known_kind kind) refl (good_index n) refl (eqb (length cs) (degree kind n + 1)) refl
    (ltb largest (height_of cs)) refl (uneven_for form kind n cs) refl (ltb room (size form cs)) refl
  where
    wrong : {k : ℕ} → suc k ≡ 0 → Written_right form kind n cs room
    wrong e = absurd (omega arith)

    go : (k : Bool) → known_kind kind ≡ k → (i : Bool) → good_index n ≡ i → (m : Bool)
        → eqb (length cs) (degree kind n + 1) ≡ m →
        (o : Bool) → ltb largest (height_of cs) ≡ o → (u : Bool) → uneven_for form kind n cs ≡ u
        → (s : Bool) → ltb room (size form cs) ≡ s →
        cond (not k) KIND (cond (not i) INDEX (cond (not m) RCOUNT (cond o OVER (cond u UNEVEN (cond s SHORT DONE)))))
        ≡ DONE → Written_right form kind n cs room
    go false ek i ei m em o eo u eu s es e = wrong e
    go true ek false ei m em o eo u eu s es e = wrong e
    go true ek true ei false em o eo u eu s es e = wrong e
    go true ek true ei true em true eo u eu s es e = wrong e
    go true ek true ei true em false eo true eu s es e = wrong e
    go true ek true ei true em false eo false eu true es e = wrong e
    go true ek true ei true em false eo false eu false es e =
        record {
          storable =
              record {
                known = ek;
                good = ei;
                count = eqb-true (length cs) (degree kind n + 1) em;
                within = eo;
                even = eu;
              };
          fits = ltb-false room (size form cs) es;
        }

-- what a reader that refuses nothing was given
pub record Read_right (form : Form) (bs : List ℕ) (room : ℕ) : Type 0 where
  pub header : header_code (mark form) bs ≡ DONE
  pub long : size_in form bs ≤ length bs
  pub fits : count_in bs ≤ room
  pub wide : width (stored_in form bs) ≡ width_in bs
  pub even : uneven_in form bs ≡ false

pub read_right : (form : Form) (bs : List ℕ) (room : ℕ) → read_code form bs room ≡ DONE → Read_right form bs room
unfolding read_code
read_right form bs room = go (header_code (mark form) bs) refl (ltb (length bs) (size_in form bs)) refl
    (ltb room (count_in bs)) refl (eqb (width (stored_in form bs)) (width_in bs)) refl (uneven_in form bs) refl
  where
    wrong : {k : ℕ} → suc k ≡ 0 → Read_right form bs room
    wrong e = absurd (omega arith)

    go : (h : ℕ) → header_code (mark form) bs ≡ h → (s : Bool) → ltb (length bs) (size_in form bs) ≡ s →
        (r : Bool) → ltb room (count_in bs) ≡ r → (w : Bool) → eqb (width (stored_in form bs)) (width_in bs) ≡ w
        → (u : Bool) → uneven_in form bs ≡ u
        → cond (not (eqb h DONE)) h (cond s CUT (cond r SHORT (cond (not w) WIDTH (cond u UNEVEN DONE)))) ≡ DONE
        → Read_right form bs room
    go (suc h) eh s es r er w ew u eu e = wrong (simp (eqb-suc-zero h) at e)
    go zero eh true es r er w ew u eu e = wrong e
    go zero eh false es true er w ew u eu e = wrong e
    go zero eh false es false er false ew u eu e = wrong e
    go zero eh false es false er true ew true eu e = wrong e
    go zero eh false es false er true ew false eu e =
        record {
          header = eh;
          long = ltb-false (length bs) (size_in form bs) es;
          fits = ltb-false room (count_in bs) er;
          wide = eqb-true (width (stored_in form bs)) (width_in bs) ew;
          even = eu;
        }

-- the look by itself, where it refuses nothing
pub looked : (form : Form) (bs : List ℕ) → look_code form bs ≡ DONE → Read_right form bs (count_in bs)
unfolding look_code
looked form bs = read_right form bs (count_in bs)

-- the width in the header takes what is stored
pub stored_fits : (form : Form) (bs : List ℕ) (room : ℕ) → Read_right form bs room
    → Fitting (stored_in form bs) (width_in bs)
stored_fits form bs room g =
    width_fits (stored_in form bs) (width_in bs) (sym g.wide)
    (width_bounds (width_in bs) (right (mark form) bs g.header).wide).0

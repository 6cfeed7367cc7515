-- A polynomial that is delivered is never UNEVEN: the writer of half records does not refuse it so, whatever the room.
use Prim.Native.Nat.{ℕ, ◌+◌}
use mathlib.Core.Path.{◌≡◌, refl, sym, ◌∙◌}
use mathlib.Core.Bool.{Bool, true, false, cond, not, true≢false}
use native.Mathlib.Omega.{arith}
use lib.ListN.{length}
use lib.Dec.{eqb, ltb}
use Rattle.definitions.specs.Codes.{DONE, KIND, INDEX, SHORT, OVER, RCOUNT, UNEVEN}
use Rattle.definitions.specs.Polynomials.{degree}
use Rattle.definitions.specs.Requests.{known_kind, good_index}
use Rattle.definitions.specs.Steps.{largest}
use Rattle.definitions.specs.Answer.{coefficients, height_of}
use Rattle.definitions.specs.Halves.{negates, uneven}
use Rattle.index.proofs.Laws.{index_good}
use Rattle.even_halves.specs.Even.{never_uneven}
use Rattle.forms.specs.declared.Form.TheVariants.{Half}
use Rattle.forms.specs.Format.{size, write_code, write_tells, write_answer}

pub delivered_even : (kind n room : ℕ) → (write_answer Half kind n (coefficients kind n) room).code ≡ UNEVEN → ⊥
unfolding write_answer write_tells write_code
delivered_even kind n room =
    go (known_kind kind) (good_index n) refl (eqb (length (coefficients kind n)) (degree kind n + 1))
    (ltb largest (height_of (coefficients kind n))) (uneven (negates kind n) (coefficients kind n)) refl
    (ltb room (size Half (coefficients kind n)))
  where
    go : (k i : Bool) → good_index n ≡ i → (m o u : Bool) → uneven (negates kind n) (coefficients kind n) ≡ u
        → (s : Bool)
        → cond (not k) KIND (cond (not i) INDEX (cond (not m) RCOUNT (cond o OVER (cond u UNEVEN (cond s SHORT DONE)))))
        ≡ UNEVEN → ⊥
    go false i ei m o u eu s e = omega arith
    go true false ei m o u eu s e = omega arith
    go true true ei false o u eu s e = omega arith
    go true true ei true true u eu s e = omega arith
    go true true ei true false true eu s e = true≢false (sym eu ∙ never_uneven kind n (index_good n ei).0)
    go true true ei true false false eu true e = omega arith
    go true true ei true false false eu false e = omega arith

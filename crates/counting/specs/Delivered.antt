-- What a census tells of an index is what a polynomial request for it answers in the working entries: code 0, since by
-- `never_over` no step is OVER and no height is TALL at the largest limits; the height; the additions. So OVER can't
-- arise in a census (`each-delivered`, `never_over`).
use Rattle.std.specs.Prelude.{ℕ, ◌≤◌, ◌≡◌, refl, Bool, true, false, cond, not, ◌≢◌, ltb, length, pos}
use Rattle.std.proofs.Common.{ap, arith}
use Rattle.definitions.specs.Codes.{DONE, SHORT, OVER, RANGE, ROWS}
use Rattle.definitions.specs.Polynomials.{degree}
use Rattle.definitions.specs.Steps.{largest}
use Rattle.definitions.specs.Requests.{known_kind}
use Rattle.definitions.specs.Answer.{height, additions_for}
use Rattle.numbers.specs.Phi.{phi-le}
use Rattle.answers.specs.Polynomial as Polynomial
use Rattle.index.proofs.Laws.{good_index_lem}
use Rattle.counting.specs.Census.{census, good_range, census_code}
use Rattle.never_over.proofs.Delivered.{answer_delivered}

pub each-delivered :
    (n : ℕ) → 1 ≤ n → n ≤ 4095 → let told = Polynomial.answer 1 n (pos largest) (pos largest) 4096 in
    (told.code ≡ DONE) × (told.height ≡ height 1 n) × (told.additions ≡ additions_for 1 n)
unfolding Polynomial.answered known_kind degree
each-delivered n low high =
    let e = answer_delivered 1 n refl (good_index_lem n low (omega arith)) 4096 (omega (arith, phi-le n)) in
    (ap (λ r. r.code) e, ap (λ r. r.height) e, ap (λ r. r.additions) e)

pub never_over : (a b slots entries : ℕ) → census_code a b slots entries ≢ OVER
unfolding census_code
never_over a b slots entries =
    go (not (good_range a b)) (ltb entries 4096) (ltb slots (length (census a b)))
  where
    go : (x y z : Bool) → cond x RANGE (cond y SHORT (cond z ROWS DONE)) ≢ OVER
    go true y z e = absurd (omega arith)
    go false true z e = absurd (omega arith)
    go false false true e = absurd (omega arith)
    go false false false e = absurd (omega arith)

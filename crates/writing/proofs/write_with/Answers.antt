-- `write_with`: each return by the tests that led there (Writing).
use Prim.Native.Nat.{ℕ, ◌+◌, ◌*◌, ◌≤◌}
use mathlib.Core.Path.{◌≡◌, sym, ◌∙◌, ap}
use mathlib.Core.Bool.{false}
use lib.ListN.{length}
use borrow.Author.Tests.{ltb-false}
use native.Mathlib.Omega.{arith}
use Rattle.definitions.specs.Steps.{largest}
use Rattle.definitions.specs.Polynomials.{degree}
use Rattle.index.proofs.Laws.{index_good, told-right, told_small}
use Rattle.widths.specs.Numbers.{width}
use Rattle.record.specs.Header.{byte_of}
use Rattle.widths.proofs.Least.{Fitting, width-none, width-made, width_fits}
use Rattle.widths.proofs.Widths.{few, nonzero}
use Rattle.record.proofs.Headers.{kind_small}
use Rattle.forms.specs.Format.{size, uneven_for, write_tells}
use Rattle.forms.proofs.Told.{told}
use Rattle.forms.proofs.Writing.{count-wrong, too_low, halves_unlike, no_room, stored-whole, size-made}
use Rattle.forms.proofs.Writing.{degree-told, all_told}
use Rattle.writing.proofs.write_with.Goals as goal
use Rattle.writing.proofs.write_with.Goals.{After-degree_of-degree, After-least_width-w, After-stored_of, Else-count-degree, Else-w-eq0}

-- what is known past the degree, the count and OVER
degree_is : (c : After-degree_of-degree) → c.degree_of-degree.result ≡ degree c.args.kind c.args.n
degree_is c = told-right _ _ _ c.degree_of-degree.ensures (index_good _ c.requires.1).1

low : (c : After-degree_of-degree) → c.degree_of-degree.result ≤ 65535
low c = told_small c.args.kind c.args.n _ c.degree_of-degree.ensures

counted : (c : Else-count-degree) → length c.args.coeffs.now ≡ degree c.args.kind c.args.n + 1
counted c =
    c.if-count-degree.false
    ∙ ap (λ d. d + 1) (told-right _ _ _ c.degree_of-degree.ensures (index_good _ c.requires.1).1)

made : (c : After-least_width-w) → c.least_width-w.result ≡ width c.args.coeffs.now
made c = width-made _ _ _ (ap (λ top. top.height) c.peak-top.ensures) c.least_width-w.ensures

fit : (c : Else-w-eq0) → Fitting c.args.coeffs.now c.least_width-w.result
fit c =
    width_fits _ _ (width-made _ _ _ (ap (λ top. top.height) c.peak-top.ensures) c.least_width-w.ensures)
    (nonzero _ c.if-w-eq0.false)

short : (c : Else-w-eq0) → length c.args.coeffs.now ≤ 65536
short c = omega (arith, c.if-count-degree.false, told_small c.args.kind c.args.n _ c.degree_of-degree.ensures)

-- and past the number of what is stored
whole : (c : After-stored_of) → 10 + c.stored_of.result * c.least_width-w.result
    ≡ size c.args.form c.args.coeffs.now
whole c =
    size-made _ _ _ _ (width-made _ _ _ (ap (λ top. top.height) c.peak-top.ensures) c.least_width-w.ensures)
    c.stored_of.ensures.0

small : (over : Else-w-eq0) (k : ℕ) → k ≤ length over.args.coeffs.now → k * over.least_width-w.result ≤ 524288
small over k part = few _ _ (omega (arith, part, short over)) (fit over).high

pub overflow_add-degree : goal.overflow_add-degree
overflow_add-degree c = omega (arith, low (goal.at.overflow_add-degree c).After-degree_of-degree)

pub returns-then-count-degree : goal.returns-then-count-degree
unfolding write_tells byte_of
returns-then-count-degree c = let told =
    let e = (goal.at.returns-then-count-degree c).After-degree_of-degree in
    let start = e in
    told c.of.ensures (count-wrong start.args.form _ _ _ _ start.requires.0 start.requires.1
    (λ m. c.if-count-degree.true (m ∙ ap (λ d. d + 1) (sym (degree_is e))))) in record { answer = told.0; leaves = told.1 }

pub returns-then-w-eq0 : goal.returns-then-w-eq0
unfolding write_tells byte_of
returns-then-w-eq0 c = let told =
    let looked = (goal.at.returns-then-w-eq0 c).After-least_width-w in
    let e = (goal.at.returns-then-w-eq0 c).Else-count-degree in
    let start = e in
    told (c.of-then-w-eq0.ensures ∙ degree-told _ _ _ (degree_is (goal.at.returns-then-w-eq0 c).After-degree_of-degree))
    (too_low start.args.form _ _ _ _ start.requires.0 start.requires.1 (counted e)
    (width-none _ (sym (made looked) ∙ c.if-w-eq0.true))) in record { answer = told.0; leaves = told.1 }

pub uneven_for-requires : goal.uneven_for-requires
uneven_for-requires c = ltb-false largest _ (fit (goal.at.uneven_for-requires c).Else-w-eq0).within

pub returns-then-uneven_for : goal.returns-then-uneven_for
unfolding write_tells byte_of
returns-then-uneven_for c = let told =
    let looked = c in
    let over = (goal.at.returns-then-uneven_for c).Else-w-eq0 in
    let e = (goal.at.returns-then-uneven_for c).Else-count-degree in
    let start = e in
    told c.of-then-uneven_for.ensures
    (halves_unlike start.args.form _ _ _ _ start.requires.0 start.requires.1 (counted e) (fit over).within
    (sym looked.uneven_for.ensures ∙ c.if-uneven_for.true)) in record { answer = told.0; leaves = told.1 }

pub stored_of-requires : goal.stored_of-requires
stored_of-requires c = short (goal.at.stored_of-requires c).Else-w-eq0

pub overflow_mul-size : goal.overflow_mul-size
overflow_mul-size c = omega (arith, small (goal.at.overflow_mul-size c).Else-w-eq0 c.stored_of.result c.stored_of.ensures.1)

pub overflow_add-size : goal.overflow_add-size
overflow_add-size c = omega (arith, small (goal.at.overflow_add-size c).Else-w-eq0 c.stored_of.result c.stored_of.ensures.1)

-- the halves match
even : (c : After-stored_of) → uneven_for c.args.form c.args.kind c.args.n
    c.args.coeffs.now ≡ false
even c = sym c.uneven_for.ensures ∙ c.if-uneven_for.false

pub returns-then-bytes-size : goal.returns-then-bytes-size
unfolding write_tells byte_of
returns-then-bytes-size c = let told =
    let stored = (goal.at.returns-then-bytes-size c).After-stored_of in
    let over = (goal.at.returns-then-bytes-size c).Else-w-eq0 in
    let e = (goal.at.returns-then-bytes-size c).Else-count-degree in
    let start = e in
    told (c.of-then-bytes-size.ensures ∙ degree-told _ _ _ (degree_is (goal.at.returns-then-bytes-size c).After-degree_of-degree))
    (no_room start.args.form _ _ _ _ start.requires.0 start.requires.1 (counted e) (fit over).within (even stored)
    (omega (arith, whole stored))) in record { answer = told.0; leaves = told.1 }

pub store-requires : goal.store-requires
store-requires c =
    let stored = (goal.at.store-requires c).After-stored_of in
    let over = (goal.at.store-requires c).Else-w-eq0 in (
      omega (arith, kind_small _ over.requires.0),
      made (goal.at.store-requires c).After-least_width-w,
      (fit over).low,
      short over,
      omega (arith, whole stored),
    )

pub returns : goal.returns
returns c = let told =
    let stored = (goal.at.returns c).After-stored_of in
    let over = (goal.at.returns c).Else-w-eq0 in
    let e = (goal.at.returns c).Else-count-degree in
    let start = e in
    let a = start.args in
    let p = stored-whole a.form a.kind a.n a.coeffs.now a.bytes.now start.requires.0 start.requires.1
    (counted e) (fit over).within (even stored) (omega (arith, whole stored)) in
    told (all_told a.form _ _ _ _ _ (degree_is (goal.at.returns c).After-degree_of-degree) (whole stored))
    (p.0, c.store.ensures ∙ p.1) in record { answer = told.0; leaves = told.1 }

-- `check_fields`: each return by the fields that were right before it (Headers), the count's by the degree of the kind
-- and the index that were read.
use Prim.Native.Nat.{ℕ, ◌+◌}
use mathlib.Core.Path.{◌≡◌, sym, ◌∙◌, ap, ap₂}
use mathlib.Core.Bool.{true}
use mathlib.Core.List.{List}
use native.Mathlib.Omega.{arith}
use Rattle.definitions.specs.Polynomials.{degree}
use Rattle.definitions.specs.Requests.{known_kind}
use Rattle.index.proofs.Laws.{told-right, told_small}
use Rattle.widths.specs.Numbers.{widths, one_of}
use Rattle.record.specs.Header.{kind_in, width_in, index_in, degree_in}
use Rattle.record.proofs.Headers.{field_kind, field_width, field_zero, field_count, fields-right}
use Rattle.record.proofs.header.check_fields.Goals as goal
use Rattle.record.proofs.header.check_fields.Goals.{After-degree_of, After-is_width-width_right, Else-n-eq0}

-- the bytes, from the place past the reading of kind and width; what was read
abbrev bytes : After-is_width-width_right → List ℕ
bytes c = c.args.bytes.now

kind-tested : (c : After-is_width-width_right) → c.known_kind-kind_right.result ≡ known_kind (kind_in (bytes c))
kind-tested c = c.known_kind-kind_right.ensures ∙ ap known_kind c.kind_in-kind.ensures

width-tested : (c : After-is_width-width_right) → c.is_width-width_right.result ≡ one_of widths (width_in (bytes c))
width-tested c = c.is_width-width_right.ensures ∙ ap (one_of widths) c.width_in.ensures

-- what the tests showed
kind_ok : (c : After-is_width-width_right) → c.known_kind-kind_right.result ≡ true →
    known_kind (kind_in (bytes c)) ≡ true
kind_ok c told = sym (kind-tested c) ∙ told

width_ok : (c : After-is_width-width_right) → c.is_width-width_right.result ≡ true →
    one_of widths (width_in (bytes c)) ≡ true
width_ok c told = sym (width-tested c) ∙ told

index_ok : (c : Else-n-eq0) → index_in c.args.bytes.now ≡ 0 → ⊥
index_ok c z = c.if-n-eq0.false (c.index_in-n.ensures.0 ∙ z)

-- the degree that was worked out
degree_is : (c : After-degree_of) →
    c.degree_of.result ≡ degree_in c.args.bytes.now
unfolding degree_in
degree_is c =
    let i = c in
    told-right _ _ _ c.degree_of.ensures i.index_in-n.ensures.1
    ∙ ap₂ degree i.kind_in-kind.ensures i.index_in-n.ensures.0

pub returns-then-not-kind_right : goal.returns-then-not-kind_right
returns-then-not-kind_right c = sym (field_kind _ (sym (kind-tested (goal.at.returns-then-not-kind_right c).After-is_width-width_right) ∙ c.if-not-kind_right.true))

pub returns-then-not-width_right : goal.returns-then-not-width_right
returns-then-not-width_right c =
    sym (field_width _ (kind_ok (goal.at.returns-then-not-width_right c).After-is_width-width_right c.if-not-kind_right.false) (sym (width-tested (goal.at.returns-then-not-width_right c).After-is_width-width_right) ∙ c.if-not-width_right.true))

pub returns-then-n-eq0 : goal.returns-then-n-eq0
returns-then-n-eq0 c =
    let e = (goal.at.returns-then-n-eq0 c).After-is_width-width_right in
    sym (field_zero _ (kind_ok (goal.at.returns-then-n-eq0 c).After-is_width-width_right c.if-not-kind_right.false) (width_ok e c.if-not-width_right.false) (sym c.index_in-n.ensures.0 ∙ c.if-n-eq0.true))

pub overflow_add-degree_of : goal.overflow_add-degree_of
overflow_add-degree_of c =
    let i = c in
    let kind = i.kind_in-kind.result in
    omega (arith, told_small kind i.index_in-n.result _ c.degree_of.ensures)

pub returns-then-count_in-degree_of : goal.returns-then-count_in-degree_of
returns-then-count_in-degree_of c =
    let counted = c in
    let e = (goal.at.returns-then-count_in-degree_of c).After-is_width-width_right in
    sym (field_count _ (kind_ok (goal.at.returns-then-count_in-degree_of c).After-is_width-width_right c.if-not-kind_right.false) (width_ok e c.if-not-width_right.false) (index_ok (goal.at.returns-then-count_in-degree_of c).Else-n-eq0)
    (λ m. c.if-count_in-degree_of.true (counted.count_in.ensures ∙ m ∙ ap (λ (d : ℕ). d + 1) (sym (degree_is (goal.at.returns-then-count_in-degree_of c).After-degree_of)))))

pub returns : goal.returns
returns c =
    let counted = c in
    let e = (goal.at.returns c).After-is_width-width_right in
    sym (fields-right _ (kind_ok (goal.at.returns c).After-is_width-width_right c.if-not-kind_right.false) (width_ok e c.if-not-width_right.false) (index_ok (goal.at.returns c).Else-n-eq0)
    (sym counted.count_in.ensures ∙ c.if-count_in-degree_of.false ∙ ap (λ (d : ℕ). d + 1) (degree_is (goal.at.returns c).After-degree_of)))

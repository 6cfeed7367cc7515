-- `convert`: each return by the tests that led there (Converting).
use Prim.Native.Nat.{◌-◌}
use mathlib.Core.Path.{◌≡◌, sym, ap, ◌∙◌}
use mathlib.Core.Bool.{false}
use mathlib.Core.List.{List, ◌++◌}
use native.Mathlib.Omega.{arith}
use Prim.Native.Nat.{ℕ}
use lib.ListN.{drop}
use Rattle.definitions.specs.Codes.{DONE, SHORT, UNEVEN}
use Rattle.record.specs.Header.{count_in, kind_in, index_in, degree_in, byte_of}
use Rattle.record.proofs.Headers.{Right, right}
use Rattle.widths.proofs.Digits.{Bytes, bytes_each}
use Rattle.forms.specs.declared.Form.{Form}
use Rattle.forms.specs.Format.{mark, record_of, size, uneven_for, coefficients_in, size_in, look_code}
use Rattle.forms.proofs.Told.{told}
use Rattle.record.proofs.Refused.{not_done}
use Rattle.forms.proofs.Done.{looked}
use Rattle.conversions.specs.Converting.{other, convert_tells}
use Rattle.conversions.proofs.Converting.{code-uneven, code-short, code_done, by_code, refused_look}
use Rattle.conversions.proofs.Converting.{degree-told, all_told, size-other}
use Rattle.conversions.proofs.converter.convert.Goals as goal
use Rattle.conversions.proofs.converter.convert.Goals.{After-size_in-written, In_default, Else-uneven}

-- what it was given
abbrev form : In_default → Form
form c = c.args.from

abbrev bytes : In_default → List ℕ
bytes c = c.args.bytes.now

are_bytes : (c : In_default) → Bytes (bytes c)
are_bytes c = bytes_each (bytes c) (λ i. (c.type_inv.bytes i).fits)

-- what the tests showed
passed : (c : In_default) → look_code (form c) (bytes c) ≡ DONE
passed c = sym c.in_default.ensures

header : (c : In_default) → Right (mark (form c)) (bytes c)
header c = right _ _ (looked _ _ (passed c)).header

even : (c : Else-uneven) → uneven_for (other c.args.from) (kind_in c.args.bytes.now) (index_in c.args.bytes.now)
    (coefficients_in c.args.from c.args.bytes.now) ≡ false
even c = sym c.uneven_from-uneven.ensures ∙ c.if-uneven.false

-- the sizes that were worked out
size_is : (c : After-size_in-written) → c.size_in-written.result ≡ size_in (other c.args.from) c.args.bytes.now
size_is c = c.size_in-written.ensures ∙ ap (λ (f : Form). size_in f c.args.bytes.now) c.other_of.ensures

written_is : (c : In_default) (k : ℕ) → k ≡ size_in (other (form c)) (bytes c) →
    k ≡ size (other (form c)) (coefficients_in (form c) (bytes c))
written_is c k e = e ∙ sym (size-other (form c) (bytes c) (are_bytes c) (passed c) (other (form c)))

degree_is : (c : In_default) (k : ℕ) → k ≡ count_in (bytes c) → k - 1 ≡ degree_in (bytes c)
degree_is c k e = omega (arith, e, (header c).count)

pub returns-in-Err : goal.returns-in-Err
returns-in-Err c =
    let p =
    told c.refused.ensures
    (refused_look c.args.from c.args.bytes.now c.args.out.now _ _ c.in-Err.ensures (not_done _) c.byte_for.ensures)
    in record { answer = p.0; leaves = p.1 }

pub size_in-written-requires : goal.size_in-written-requires
size_in-written-requires c = (_, (looked _ _ (passed (goal.at.size_in-written-requires c).In_default)).header)

pub count_in-degree-requires : goal.count_in-degree-requires
count_in-degree-requires c = (header (goal.at.count_in-degree-requires c).In_default).long

pub overflow_sub-degree : goal.overflow_sub-degree
overflow_sub-degree c = omega (arith, c.count_in-degree.ensures, (header (goal.at.overflow_sub-degree c).In_default).count)

pub returns-then-uneven : goal.returns-then-uneven
unfolding convert_tells byte_of
returns-then-uneven c = let told =
    let then = c in
    let sized = (goal.at.returns-then-uneven c).After-size_in-written in
    let l = (goal.at.returns-then-uneven c).In_default in
    told c.refused-then-uneven.ensures
    (by_code (form l) (bytes l) c.args.out.now UNEVEN
    (code-uneven _ _ _ (passed (goal.at.returns-then-uneven c).In_default)
    (sym sized.uneven_from-uneven.ensures ∙ then.if-uneven.true))) in record { answer = told.0; leaves = told.1 }

pub returns-then-out-written : goal.returns-then-out-written
unfolding convert_tells byte_of
returns-then-out-written c = let told =
    let e = (goal.at.returns-then-out-written c).Else-uneven in
    let sized = (goal.at.returns-then-out-written c).After-size_in-written in
    let l = (goal.at.returns-then-out-written c).In_default in
    told (c.refused-then-out-written.ensures ∙ degree-told _ _ (degree_is (goal.at.returns-then-out-written c).In_default _ c.count_in-degree.ensures))
    (by_code (form l) (bytes l) c.args.out.now SHORT
    (code-short _ _ _ (passed (goal.at.returns-then-out-written c).In_default) (even e) (omega (arith, written_is (goal.at.returns-then-out-written c).In_default _ (size_is sized))))) in record { answer = told.0; leaves = told.1 }

pub size_in-requires : goal.size_in-requires
size_in-requires c =
    let sized = (goal.at.size_in-requires c).After-size_in-written in
    (_, (looked _ _ (passed (goal.at.size_in-requires c).In_default)).header)

pub returns : goal.returns
returns c = let roomy = c in
    let e = (goal.at.returns c).Else-uneven in
    let sized = (goal.at.returns c).After-size_in-written in
    let l = (goal.at.returns c).In_default in
    let cs = coefficients_in (form l) (bytes l) in
    let made = record_of (other (form l)) (kind_in (bytes l)) (index_in (bytes l)) cs in
    let out = c.args.out.now in
    let p = by_code (form l) (bytes l) out DONE
    (code_done _ _ _ (passed (goal.at.returns c).In_default) (even e) (omega (arith, written_is (goal.at.returns c).In_default _ (size_is sized), roomy.if-out-written.false))) in record {
      answer = all_told (form l) _ _ _ _ (degree_is (goal.at.returns c).In_default _ c.count_in-degree.ensures) c.size_in.ensures (written_is (goal.at.returns c).In_default _ (size_is sized)) ∙ p.0;
      leaves = c.store.ensures
          ∙ ap (λ (k : ℕ). made ++ drop k out) (sym (size_is sized) ∙ written_is (goal.at.returns c).In_default _ (size_is sized)) ∙ p.1;
    }

-- `cascade` meets its contract: each test's code (Answering), and then `answer_in`'s. What the tests showed is named
-- once.
use mathlib.Core.Path.{◌≡◌, sym, ◌∙◌, ap, ap₂}
use mathlib.Core.Bool.{false, ◌||◌, or-true}
use native.Mathlib.Omega.{arith}
use borrow.Author.Tests.{eq-eqb, ne_eqb, le-ltb, lt-ltb}
use lib.Dec.{eqb, ltb}
use lib.ListN.{length}
use Prim.Native.Nat.{ℕ, ◌≤◌}
use mathlib.Core.List.{List}
use Rattle.definitions.specs.Cascades.{total_degree}
use Rattle.cascade.specs.Asked.{SizesOf}
use Rattle.cascade.specs.declared.asked.Sizes.{Sizes}
use Rattle.step_laws.specs.Machine.{below_one_lem}
use Rattle.step_laws.specs.WorkingLimit.{read_limit}
use Rattle.cascade.proofs.Answering.{at_list, at_index, at_limit, ask_list, ask_index, ask_long, ask_limit}
use Rattle.cascade.proofs.cascade.Goals as goal

-- from one to eight indices
few : (k : ℕ) → (k ≡ 0 → ⊥) → k ≤ 8 → (eqb k 0 || ltb 8 k) ≡ false
few k n m = ap₂ ◌||◌ (ne_eqb k 0 n) (le-ltb 8 k m)

-- the product not too long
short : {ns : List ℕ} {s : Sizes} → SizesOf ns s → s.total ≤ 65535 → ltb 65535 (total_degree ns) ≡ false
short {ns} is m = le-ltb 65535 (total_degree ns) (omega (arith, is.total))

pub returns-then-indices-eq0 : goal.returns-then-indices-eq0
returns-then-indices-eq0 c =
    let p = c.args in
    let told = at_list _ _ p.buf.now p.scratch.now c.of.ensures
    (ask_list _ _ _ _
    (ap (λ x. x || ltb 8 (length p.indices.now))
    (eq-eqb (length p.indices.now) 0 c.if-indices-eq0.true))) in
    record { value = told.0; buf_after = told.1.0; scratch_after = told.1.1 }

pub returns-then-indices-gt8 : goal.returns-then-indices-gt8
returns-then-indices-gt8 c =
    let p = c.args in
    let told = at_list _ _ p.buf.now p.scratch.now c.of-then-indices-gt8.ensures
    (ask_list _ _ _ _
    (ap (λ x. eqb (length p.indices.now) 0 || x)
    (lt-ltb 8 (length p.indices.now) c.if-indices-gt8.true)
    ∙ or-true (eqb (length p.indices.now) 0))) in
    record { value = told.0; buf_after = told.1.0; scratch_after = told.1.1 }

pub returns-in_default : goal.returns-in_default
returns-in_default c =
    let told = at_index _ _ c.args.buf.now c.args.scratch.now c.of-in_default.ensures
    (ask_index _ _ _ _ (few (length c.args.indices.now) c.if-indices-eq0.false c.if-indices-gt8.false)
    (sym c.in_default.ensures.good)) in
    record { value = told.0; buf_after = told.1.0; scratch_after = told.1.1 }

pub returns-then-sizes-gt65535 : goal.returns-then-sizes-gt65535
returns-then-sizes-gt65535 c =
    let ns = c.args.indices.now in
    let is = c.in-Some.ensures in
    let told = at_list _ _ c.args.buf.now c.args.scratch.now c.of-then-sizes-gt65535.ensures
    (ask_long _ _ _ _ (few (length ns) c.if-indices-eq0.false c.if-indices-gt8.false) (sym is.good)
    (lt-ltb 65535 (total_degree ns) (omega (arith, is.sizes.total, c.if-sizes-gt65535.true)))) in
    record { value = told.0; buf_after = told.1.0; scratch_after = told.1.1 }

pub returns-then-h-lt1 : goal.returns-then-h-lt1
returns-then-h-lt1 c =
    let ns = c.args.indices.now in
    let is = c.in-Some.ensures in
    let told = at_limit _ _ c.args.buf.now c.args.scratch.now c.of-then-h-lt1.ensures
    (ask_limit _ _ _ _ (few (length ns) c.if-indices-eq0.false c.if-indices-gt8.false) (sym is.good)
    (short is.sizes c.if-sizes-gt65535.false) (below_one_lem c.args.h c.ranges.h c.if-h-lt1.true)) in
    record { value = told.0; buf_after = told.1.0; scratch_after = told.1.1 }

pub answer_in-requires : goal.answer_in-requires
answer_in-requires c =
    let is = c.in-Some.ensures in (
      is.sizes,
      record {
        few = few (length c.args.indices.now) c.if-indices-eq0.false c.if-indices-gt8.false;
        good = sym is.good;
        short = short is.sizes c.if-sizes-gt65535.false;
        limit = (read_limit c.args.h c.ranges.h (below_one_lem c.args.h c.ranges.h c.if-h-lt1.false) c.unsigned_abs.ensures.value).2.0;
      },
    )

pub returns : goal.returns
returns c =
    let h = read_limit c.args.h c.ranges.h (below_one_lem c.args.h c.ranges.h c.if-h-lt1.false) c.unsigned_abs.ensures.value in
    rw h.1 at c.answer_in.ensures

-- `accumulates::second::take_second_row` meets its contract. The loop's invariant: the entries below x are the
-- accumulate's, and tested.
use Prim.Native.Nat.{◌+◌, ◌<◌}
use mathlib.Core.Path.{◌≡◌, refl, sym, ◌∙◌, ap, subst}
use native.Mathlib.Nat.{not-le_of_lt}
use native.Mathlib.Omega.{arith}
use lib.ListN.{length}
use Rattle.definitions.specs.Steps.{entries, in_range}
use Rattle.step_laws.specs.Tests.{by_order}
use Rattle.entry_steps.proofs.Split.{moved_up}
use Rattle.chains.specs.Tested.{Found}
use Rattle.accumulates.proofs.SecondRow.{second_start, second_is, second_tested, asked_second}
use Rattle.accumulates.proofs.second.take_second_row.Goals as goal

pub loop-x-init : goal.loop-x-init
loop-x-init g c = (second_start c.args.d c.args.a.now, λ k b h. absurd (not-le_of_lt b h))

pub step_entry_within-requires : goal.step_entry_within-requires
step_entry_within-requires g c =
    let p = c.args in
    let i = c.loop-x.invariant in (
      omega arith,
      omega arith,
      c.requires.2,
      asked_second p.d c.requires.0 p.a.now i.0 p.w i.1 (omega arith) (omega (arith, i.0.len)) g.T.Test.way c.requires.3,
    )

-- the value is past w: the list is as it was
pub returns-then-not-step_entry_within : goal.returns-then-not-step_entry_within
returns-then-not-step_entry_within g c =
    let p = c.args in
    let i = c.loop-x.invariant in
    let s = c.step_entry_within.ensures in
    let no = c.if-not-step_entry_within.true in
    record {
      tested = rw (s.a_after, no) (second_tested p.d c.requires.0 p.a.now i.0 i.1);
      first = omega arith;
      most = omega arith;
      over = λ short. (
        omega arith,
        ap (in_range p.w) (sym (second_is p.d c.requires.0 p.a.now i.0 (omega arith) short)) ∙ sym (rw no at s.value.0),
      );
    }

-- it is within w: the step is taken there, and the old entry fits
pub loop-x-preserved : goal.loop-x-preserved
unfolding entries
loop-x-preserved g c =
    let p = c.args in
    let i = c.loop-x.invariant in
    let x = c.loop-x.x in
    let s = c.step_entry_within.ensures in
    let passed = c.if-not-step_entry_within.false in
    let b : x < length p.a.now = omega (arith, i.0.len) in
    let is = second_is p.d c.requires.0 p.a.now i.0 (omega arith) b in (
      rw (s.a_after, passed) (moved_up i.0 x (x + 1) b refl refl _ is),
      λ k below.
          by_order k x (i.1 k)
          (λ high.
          let same : x ≡ k = omega arith in
          subst (Found p.w p.d p.a.now) same (λ _. (
            ap (in_range p.w) (sym is) ∙ sym (rw passed at s.value.0),
            rw (i.0.above x (omega arith) b) at s.value.1,
          ))),
    )

-- `census`: refused at once, or the census in the first 4,096 entries (Codes).
use mathlib.Core.Path.{◌≡◌, sym, ◌∙◌, ap}
use mathlib.Core.Bool.{true}
use mathlib.Core.List.{◌++◌}
use Prim.Native.Nat.{◌≤◌}
use native.Mathlib.Omega.{arith}
use lib.ListN.{length, drop}
use lib.Seq.{length-take-le}
use Rattle.counting.specs.Census.{good_range}
use Rattle.counting.proofs.Codes.{out_of_range, too_short, same_answer, same_leaves, all_clear}
use Rattle.counting.proofs.census.Goals as goal
use Rattle.counting.proofs.census.Goals.{Else-not-good_range}

pub returns-then-not-good_range : goal.returns-then-not-good_range
returns-then-not-good_range c =
    let r = out_of_range _ _ _ c.args.work.now (sym c.good_range.ensures ∙ c.if-not-good_range.true) in
    record { answer = c.refused.ensures ∙ sym r.0; leaves = sym r.1; clears = sym r.2 }

-- the bounds are good
good : (e : Else-not-good_range) → good_range e.args.a e.args.b ≡ true
good e = sym e.good_range.ensures ∙ e.if-not-good_range.false

pub returns-then-work-lt-USED : goal.returns-then-work-lt-USED
returns-then-work-lt-USED c =
    let e = (goal.at.returns-then-work-lt-USED c).Else-not-good_range in
    let a = c.args in
    let r = too_short a.a a.b a.rows.now a.work.now (good e) (omega arith) in
    record { answer = c.refused-then-work-lt-USED.ensures ∙ sym r.0; leaves = sym r.1; clears = sym r.2 }

pub census_in-requires : goal.census_in-requires
census_in-requires c =
    let e = (goal.at.census_in-requires c).Else-not-good_range in
    (good e, length-take-le 4096 e.args.work.now (omega arith))

pub returns : goal.returns
returns c =
    let e = (goal.at.returns c).Else-not-good_range in
    let a = c.args in
    let g = good e in
    let enough : 4096 ≤ length a.work.now = omega arith in
    record {
      answer = c.census_in.ensures.value ∙ sym (same_answer a.a a.b a.rows.now a.work.now g enough);
      leaves = c.census_in.ensures.rows_after ∙ sym (same_leaves a.a a.b a.rows.now a.work.now g enough);
      clears = ap (λ l. l ++ drop 4096 a.work.now) c.census_in.ensures.work_after
          ∙ sym (all_clear a.a a.b a.rows.now a.work.now g enough);
    }

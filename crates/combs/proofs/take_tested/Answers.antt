-- `combs::take_tested` meets its contract, which is the loop's invariant: the comb got down to k, tested.
use mathlib.Core.Path.{◌≡◌, sym}
use Prim.Native.Nat.{◌+◌, ◌-◌}
use native.Mathlib.Omega.{arith}
use Rattle.combs.proofs.CombedTo.{new_is}
use Rattle.combs.proofs.TestedTo.{tested-start, tested-next, asked-next}
use Rattle.combs.proofs.take_tested.Goals as goal

pub loop-k-init : goal.loop-k-init
loop-k-init g c = tested-start c.args.w c.args.d c.args.a.now c.requires.0

pub step_entry_within-requires : goal.step_entry_within-requires
step_entry_within-requires g c = (
  omega arith,
  omega arith,
  c.requires.1,
  asked-next c.loop-k.invariant _ (omega arith) (omega arith) g.T.Test.way c.requires.2,
)

pub returns-then-not-step_entry_within-clause-result_value :
    goal.returns-then-not-step_entry_within-clause-result_value
returns-then-not-step_entry_within-clause-result_value g c = λ _.
    let last : c.loop-k.k - 1 + 1 - 1 ≡ c.loop-k.k - 1 = omega arith in
    rw (
      last,
      ← new_is c.loop-k.invariant.read.done (c.loop-k.k - 1) (omega arith) (omega arith),
      ← c.step_entry_within.ensures.value.0,
    )
    c.if-not-step_entry_within.true

-- it is within w: the step is taken there
pub loop-k-preserved : goal.loop-k-preserved
loop-k-preserved g c =
    let s = c.step_entry_within.ensures in
    let passed = c.if-not-step_entry_within.false in
    rw (s.a_after, passed)
    (tested-next c.loop-k.invariant _ (omega arith) (omega arith) (sym (rw passed at s.value.0)) s.value.1)

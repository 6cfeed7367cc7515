-- `place_sum`: the sums of products of the digits a and k - a, one after the other.
use Prim.Native.Nat.{◌+◌, ◌*◌, ◌-◌, ◌≤◌}
use mathlib.Core.Path.{◌≡◌, sym, ◌∙◌, ap}
use native.Mathlib.Omega.{arith}
use native.Mathlib.Numerals.{add-one}
use lib.IntN.{ℤ, nat_abs}
use mir.Syntax.{w64}
use mir.Val.{to_z, SFits}
use Rattle.definitions.specs.Integers.{◌⊕◌}
use Rattle.definitions.specs.Series.{◌·◌}
use Rattle.definitions.specs.Steps.{entries}
use Rattle.step_laws.specs.Signed.{abs_⊕}
use Rattle.step_laws.specs.Machine.{seen, handed}
use Rattle.digit_sums.specs.Digits.{digits, place_to, place_more, place_none}
use Rattle.light_sums.proofs.Joins.{small_fits}
use Rattle.digit_sums.proofs.place_sum.Goals as goal
use Rattle.digit_sums.proofs.place_sum.Goals.{After-digit_sum, At-loop-a}

pub loop-a-init : goal.loop-a-init
loop-a-init c = (sym (place_none (entries c.args.f.now) (entries c.args.b.now) c.args.i c.args.k), omega arith)

-- one sum more
module _ (c : After-digit_sum) where
  abbrev at : At-loop-a
  at = c.before.before

  abbrev one : ℤ
  one =
      let a = at.args in
      (digits at.loop-a.a (entries a.f.now) · digits (a.k - at.loop-a.a) (entries a.b.now)) a.i

  one_small : nat_abs one ≤ 1152921504606846976
  one_small = rw c.digit_sum.ensures.0 at c.digit_sum.ensures.1

  one_seen : seen c.digit_sum.result ≡ one
  one_seen = handed (small_fits one (omega (arith, one_small))) c.digit_sum.ensures.0

  both_small : nat_abs (to_z w64 at.loop-a.s-bits ⊕ one) ≤ (at.loop-a.a + 1) * 1152921504606846976
  both_small = omega (arith, abs_⊕ (to_z w64 at.loop-a.s-bits) one, at.loop-a.invariant.1, one_small)

  next : SFits w64 (to_z w64 at.loop-a.s-bits ⊕ one)
  next = small_fits _ (omega (arith, both_small, at.requires.2, c.loop-a-test.true))

  sum-more :
      {s : ℤ} → s ≡ to_z w64 at.loop-a.s-bits ⊕ seen c.digit_sum.result
      → (seen s ≡ place_to (entries at.args.f.now) (entries at.args.b.now) at.args.i at.args.k (at.loop-a.a + 1))
      × (nat_abs (seen s) ≤ (at.loop-a.a + 1) * 1152921504606846976)
  sum-more e =
      let a = at.args in
      let is = handed next (e ∙ ap (λ n. to_z w64 at.loop-a.s-bits ⊕ n) one_seen) in (
        is ∙ ap (λ n. n ⊕ one) at.loop-a.invariant.0
            ∙ sym (place_more (entries a.f.now) (entries a.b.now) a.i a.k at.loop-a.a),
        rw is both_small,
      )

pub plus-s-requires : goal.plus-s-requires
plus-s-requires c = rw (one_seen (goal.at.plus-s-requires c).After-digit_sum) (next (goal.at.plus-s-requires c).After-digit_sum)

pub loop-a-preserved : goal.loop-a-preserved
loop-a-preserved c = sum-more (goal.at.loop-a-preserved c).After-digit_sum c.plus-s.ensures

pub returns : goal.returns
returns c =
    let (is, small) = c.loop-a.invariant in
    let last : c.loop-a.a ≡ c.args.k + 1 = omega (arith, c.loop-a-test.false) in (
      is ∙ ap (place_to (entries c.args.f.now) (entries c.args.b.now) c.args.i c.args.k) (last ∙ add-one c.args.k),
      omega (arith, small, last, c.requires.2),
    )

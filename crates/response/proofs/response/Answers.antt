-- `response`: what stands in `running` is the value of the coefficients from i on, and none of those is coarse.
use Rattle.std.proofs.Common.{◌≡◌, refl, sym, ◌∙◌, ap, arith, rules, ◌-◌, get_or, false, true}
use lib.Ieee.{of_bits}
use Rattle.definitions.specs.Integers.{0ℤ}
use Rattle.response.specs.Response.{next_at, is_coarse}
use Rattle.response.specs.Laws.{value_none, value_more, coarse_none, coarse_more, coarse_some, outside-answer, coarse_answer, delivered}
use Rattle.response.proofs.response.Goals as goal

pub returns-then-not-inside : goal.returns-then-not-inside
returns-then-not-inside c =
    c.refused.ensures ∙ sym (outside-answer c.args.coeffs.now c.args.at (sym c.inside.ensures ∙ c.if-not-inside.true))

pub loop-i-init : goal.loop-i-init
unfolding of_bits
loop-i-init c = (sym (value_none c.args.coeffs.now c.args.at), coarse_none c.args.coeffs.now)

pub returns-then-coarse : goal.returns-then-coarse
returns-then-coarse c =
    let cs = c.args.coeffs.now in
    let left = c.loop-i.i in
    let first : is_coarse (get_or cs (left - 1) 0ℤ) ≡ true = search rules in
    let inside = sym c.inside.ensures ∙ c.if-not-inside.false in
    c.refused-then-coarse.ensures
    ∙ sym (coarse_answer cs c.args.at inside
    (coarse_some cs (left - 1) (coarse_more cs left (omega arith) (omega arith) ∙ rw first refl)))

pub loop-i-preserved : goal.loop-i-preserved
loop-i-preserved c =
    let cs = c.args.coeffs.now in
    let left = c.loop-i.i in
    let first : is_coarse (get_or cs (left - 1) 0ℤ) ≡ false = search rules in
    let next : c.next-running.result ≡ next_at c.loop-i.running c.args.at (get_or cs (left - 1) 0ℤ) = search rules in (
      next ∙ ap (λ v. next_at v c.args.at (get_or cs (left - 1) 0ℤ)) c.loop-i.invariant.0
          ∙ value_more cs left (omega arith) (omega arith) c.args.at,
      coarse_more cs left (omega arith) (omega arith) ∙ rw (first, c.loop-i.invariant.1) refl,
    )

pub returns : goal.returns
returns c =
    let cs = c.args.coeffs.now in
    let none : c.loop-i.i ≡ 0 = omega arith in
    let inside = sym c.inside.ensures ∙ c.if-not-inside.false in
    rw (c.loop-i.invariant.0, none) (sym (delivered cs c.args.at inside (rw none at c.loop-i.invariant.1)))

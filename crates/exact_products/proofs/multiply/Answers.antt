-- `multiply`: a coefficient is made of what stands there still, and put in its place, or it is out of range (Making).
use Prim.Native.Nat.{◌-◌}
use mathlib.Core.Path.{◌≡◌, sym, ◌∙◌, ap}
use mathlib.Core.Bool.{not}
use native.Mathlib.Omega.{arith}
use Rattle.definitions.specs.Series.{◌·◌}
use Rattle.definitions.specs.Steps.{entries}
use Rattle.light_sums.specs.Told.{told}
use Rattle.exact_products.specs.Products.{ready_terms}
use Rattle.exact_products.proofs.Lost.{not_ok}
use Rattle.exact_products.proofs.Making.{made_none, made_ready, made-next, made_out, made_all, made_in}
use Rattle.exact_products.proofs.multiply.Goals as goal
use Rattle.exact_products.proofs.multiply.Goals.{then-light, else-light}

pub loop-i-init : goal.loop-i-init
loop-i-init c = made_none c.args.f.now c.args.b.now

pub light_sum-v-requires : goal.light_sum-v-requires
light_sum-v-requires c =
    let p = c.requires in
    let ready = made_ready c.loop-i.invariant c.loop-i-test.true c.args.have p.0 p.1 p.2 p.3 p.4 in (
      ready_terms _ _ _ _ _ _ ready c.saturating_sub-from.ensures c.min-to.ensures,
      omega (arith, c.weight_of-light.ensures, c.if-light.true),
    )

pub heavy_sum-v-requires : goal.heavy_sum-v-requires
heavy_sum-v-requires c =
    let p = c.requires in
    let ready = made_ready c.loop-i.invariant c.loop-i-test.true c.args.have p.0 p.1 p.2 p.3 p.4 in
    (ready_terms _ _ _ _ _ _ ready c.saturating_sub-from.ensures c.min-to.ensures, p.2)

pub returns-in_err-b-clause-value : goal.returns-in_err-b-clause-value
returns-in_err-b-clause-value c =
    let is : c.if-light.v ≡ told ((entries c.args.f.now · entries c.loop-i.b) (c.loop-i.i - 1)) =
    elim c.if-light.branch [ then-light w ↦ w.v-is ∙ w.light_sum-v.ensures | else-light w ↦ w.v-is ∙ w.heavy_sum-v.ensures ] in
    not_ok c.from_residual.result c.from_residual.ensures.0
    ∙ ap not (sym (made_out c.loop-i.invariant c.loop-i-test.true (sym is ∙ c.in_err-b.ensures.ok_part)))

pub loop-i-preserved : goal.loop-i-preserved
loop-i-preserved c =
    let is : c.if-light.v ≡ told ((entries c.args.f.now · entries c.loop-i.b) (c.loop-i.i - 1)) =
    elim c.if-light.branch [ then-light w ↦ w.v-is ∙ w.light_sum-v.ensures | else-light w ↦ w.v-is ∙ w.heavy_sum-v.ensures ] in
    made-next c.loop-i.invariant c.loop-i-test.true (sym is ∙ c.in_ok-b.ensures.ok_part)

pub returns-clause-value : goal.returns-clause-value
returns-clause-value c = ap not (sym (made_in c.loop-i.invariant c.loop-i-test.false))

pub returns-clause-b_after : goal.returns-clause-b_after
returns-clause-b_after c = (λ e. made_all c.loop-i.invariant c.loop-i-test.false, c.loop-i.auto.b)

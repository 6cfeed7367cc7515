-- `joining::join` meets its contract: what is filled in, multiplied and for F divided is the polynomial of m p modulo
-- 2^64, and so exact.
use Prim.Native.Nat.{◌+◌, ◌*◌, ◌/◌, ◌≤◌}
use mathlib.Core.Path.{◌≡◌, sym, ◌∙◌, ap, ap₂}
use native.Mathlib.Omega.{arith}
use lib.ListN.{length, length-take}
use lib.Seq.{length-take-le}
use Rattle.definitions.specs.Series.{◌·◌, spread}
use Rattle.definitions.specs.Polynomials.{degree}
use Rattle.definitions.specs.KeptHalf.{half_degree}
use Rattle.definitions.specs.Second.{other_kind}
use Rattle.definitions.specs.Steps.{entries}
use Rattle.second_engine.specs.Kinds.{kind_means}
use Rattle.second_engine.specs.Halves.{divided}
use Rattle.second_engine.proofs.Joined.{r-pos, m_small, phi-r, free-r, still, made-half}
use Rattle.second_engine.proofs.Joined.{both_degrees, own_series, front_series, joined}
use Rattle.second_engine.proofs.joining.join.Goals as goal
use Rattle.second_engine.proofs.joining.join.Goals.{After-degree, After-degree-2}

-- how many entries the other kind's has
whole : (c : After-degree) → c.degree.result ≡ degree (other_kind (kind_means c.args.kind)) c.args.m
whole c = c.degree.ensures ∙ ap (λ kind. degree kind c.args.m) c.other.ensures

inside : (c : After-degree) → c.degree.result + degree (kind_means c.args.kind) c.args.m ≡ c.args.m
inside c = rw (whole c) (both_degrees (kind_means c.args.kind) c.args.m)

-- how many are made
size : (c : After-degree-2)
    → c.degree-2.result / 2 + 1 ≡ half_degree (kind_means c.args.kind) (c.args.m * c.args.p) + 1
unfolding half_degree
size c = ap (λ d. d / 2 + 1) c.degree-2.ensures

room : (c : After-degree-2) → c.degree-2.result / 2 + 1 ≤ length c.args.a.now
room c = rw (size c) c.requires.room

pub overflow_add-whole : goal.overflow_add-whole
overflow_add-whole c = omega (arith, inside c, m_small c.requires)

pub fill-requires-clause-m_nonzero : goal.fill-requires-clause-m_nonzero
fill-requires-clause-m_nonzero c =
    let J = c.requires in
    (J.pos, m_small J, omega (arith, inside (goal.at.fill-requires-clause-m_nonzero c).After-degree), J.both)

pub overflow_mul-below : goal.overflow_mul-below
overflow_mul-below c = omega (arith, free-r c.requires, c.requires.small)

pub degree-requires-2 : goal.degree-requires-2
degree-requires-2 c = phi-r c.requires

pub split_at-requires : goal.split_at-requires
split_at-requires c =
    let at = (goal.at.split_at-requires c).After-degree in
    omega (arith, inside at, length-take (c.args.m + 2) c.fill.new.b, c.fill.auto.b, c.requires.both)

pub slice_bounds-product-end : goal.slice_bounds-product-end
slice_bounds-product-end c = room (goal.at.slice_bounds-product-end c).After-degree-2

pub slice_bounds-product-end-2 : goal.slice_bounds-product-end-2
slice_bounds-product-end-2 c = sym (length-take-le _ c.args.a.now (room (goal.at.slice_bounds-product-end-2 c).After-degree-2))

pub returns : goal.returns
returns c =
    let J = c.requires in
    let at = (goal.at.returns c).After-degree in
    let sized = (goal.at.returns c).After-degree-2 in
    let K = kind_means c.args.kind in
    let F = c.fill.ensures in
    let other = rw (sym (whole at)) at J.other in
    let last = inside at in
    made-half K _ (r-pos J) J.small _ c.product.ensures
    (ap₂ (λ f g. divided K c.args.m (spread c.args.p f · g))
    (ap entries c.split_at.ensures.back ∙ own_series F.whole (omega arith))
    (ap entries c.split_at.ensures.front ∙ front_series (c.args.m + 2) (still F other) (omega arith))
    ∙ joined c.args.kind J)
    (c.product.auto.a ∙ length-take-le _ _ (room sized) ∙ size sized)

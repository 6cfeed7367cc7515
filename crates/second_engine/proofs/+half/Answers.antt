-- `second_engine::half` meets its contract, by recursion on the number of primes: of none the lower half is one entry,
-- else both polynomials of one prime fewer are made and joined.
use Prim.Native.Nat.{◌+◌, ◌/◌}
use mathlib.Core.Path.{refl, ◌∙◌, ap}
use native.Mathlib.Omega.{arith}
use Rattle.definitions.specs.Polynomials.{degree}
use Rattle.second_engine.specs.Kinds.{kind_means}
use Rattle.second_engine.proofs.Fewer.{one_fewer_of, degree-le, front-half, front-room, rest-room, rest-length}
use Rattle.second_engine.proofs.Fewer.{join, one-row, one_entry, first_one, inverse_one}
use Rattle.second_engine.proofs.+half.Goals as goal
use Rattle.second_engine.proofs.+half.Goals.{in-First, in-Inverse, After-degree}

pub returns-in_default : goal.returns-in_default
returns-in_default t c =
    one_entry (kind_means c.args.kind) c.args.r c.args.a.now _ (one-row c.requires c.in_default.ensures.cases) c.requires.room
    (elim c.match-kind.branch [
      | in-First w ↦ rw w.in-First.is (w.a-is ∙ first_one)
      | in-Inverse w ↦ rw w.in-Inverse.is (w.a-is ∙ inverse_one)
    ])

pub nonzero_div-m : goal.nonzero_div-m
nonzero_div-m t c =
    let O = one_fewer_of c.requires _ _ c.in-Some.ensures.cases _ c.largest-p.ensures in
    omega (arith, O.above)

pub overflow_sub-below : goal.overflow_sub-below
overflow_sub-below t c =
    let O = one_fewer_of c.requires _ _ c.in-Some.ensures.cases _ c.largest-p.ensures in
    omega (arith, O.above)

pub nonzero_div-below : goal.nonzero_div-below
nonzero_div-below t c =
    let O = one_fewer_of c.requires _ _ c.in-Some.ensures.cases _ c.largest-p.ensures in
    omega (arith, O.above)

pub degree-requires : goal.degree-requires
degree-requires t c =
    let O = one_fewer_of c.requires _ _ c.in-Some.ensures.cases _ c.largest-p.ensures in
    O.is_below

pub overflow_add-whole : goal.overflow_add-whole
overflow_add-whole t c =
    let O = one_fewer_of c.requires _ _ c.in-Some.ensures.cases _ c.largest-p.ensures in
    omega (arith, c.degree.ensures, degree-le O (kind_means c.other-other.result), O.small)

pub half-requires : goal.half-requires
half-requires t c =
    let O = one_fewer_of c.requires _ _ c.in-Some.ensures.cases _ c.largest-p.ensures in
    (omega (arith, c.decreases, c.in-Some.ensures.cases.1), O.ask _ _ _ refl (front-half O _))

pub fill-requires-clause-m_nonzero : goal.fill-requires-clause-m_nonzero
fill-requires-clause-m_nonzero t c =
    let O = one_fewer_of c.requires _ _ c.in-Some.ensures.cases _ c.largest-p.ensures in (
      O.pos,
      O.small,
      omega (arith, c.degree.ensures),
      omega (arith, c.degree.ensures, c.half.auto.a, front-room O (kind_means c.other-other.result)),
    )

pub offset_bounds-b-whole : goal.offset_bounds-b-whole
offset_bounds-b-whole t c =
    let O = one_fewer_of c.requires _ _ c.in-Some.ensures.cases _ c.largest-p.ensures in
    omega (arith, c.degree.ensures, degree-le O (kind_means c.other-other.result), O.small)

pub slice_bounds-half-count : goal.slice_bounds-half-count
slice_bounds-half-count t c =
    let O = one_fewer_of c.requires _ _ c.in-Some.ensures.cases _ c.largest-p.ensures in
    omega (arith, c.degree.ensures, c.fill.auto.b, c.half.auto.a, front-room O (kind_means c.other-other.result))

pub slice_bounds-half-start : goal.slice_bounds-half-start
slice_bounds-half-start t c =
    let O = one_fewer_of c.requires _ _ c.in-Some.ensures.cases _ c.largest-p.ensures in
    omega (arith, c.degree.ensures, c.fill.auto.b, c.half.auto.a, front-room O (kind_means c.other-other.result))

pub half-requires-2 : goal.half-requires-2
half-requires-2 t c =
    let O = one_fewer_of c.requires _ _ c.in-Some.ensures.cases _ c.largest-p.ensures in
    let whole = c.degree.ensures ∙ ap (λ k. degree k (c.args.r / c.largest-p.result)) c.other-other.ensures in (
      omega (arith, c.decreases, c.in-Some.ensures.cases.1),
      O.ask _ _ _ c.half.auto.b (rest-room O c.fill.new.b _ (c.fill.auto.b ∙ c.half.auto.a) (ap (λ d. d + 1) whole)),
    )

pub join-requires : goal.join-requires
join-requires t c =
    let O = one_fewer_of c.requires _ _ c.in-Some.ensures.cases _ c.largest-p.ensures in
    let whole = c.degree.ensures ∙ ap (λ k. degree k (c.args.r / c.largest-p.result)) c.other-other.ensures in
    let same = c.fill.auto.b ∙ c.half.auto.a in
    let ends = ap (λ d. d + 1) whole in
    join O _ _ ends (rw c.other-other.ensures at c.fill.ensures) same
    (c.half-2.auto.a ∙ rest-length O c.fill.new.b _ same ends) (c.half-2.auto.b ∙ c.half.auto.b) c.half-2.ensures

pub returns : goal.returns
returns t c =
    let O = one_fewer_of c.requires _ _ c.in-Some.ensures.cases _ c.largest-p.ensures in
    rw O.is_r c.join.ensures

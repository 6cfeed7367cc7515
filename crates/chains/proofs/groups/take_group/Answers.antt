-- `chains::groups::take_group` meets its contract. The loop's invariant: the group is taken and tested before the row
-- at k. A row that stops short shows a value that passes w.
use mathlib.Core.Path.{◌≡◌, subst}
use native.Mathlib.Omega.{arith}
use Rattle.chains.specs.Chains.{RowTaken}
use Rattle.chains.proofs.Group.{group_start, asked-row, row_stopped, row_ahead}
use Rattle.chains.proofs.groups.take_group.Goals as goal

pub loop-k-init : goal.loop-k-init
loop-k-init g c =
    let p = c.args in
    group_start p.d p.c g.row.N (omega arith) (omega arith) p.w p.a.now c.first_row.new.s (omega arith) (omega arith)
    (omega arith) (λ j h. c.first_row.ensures j h)

pub take_row-q-requires : goal.take_row-q-requires
take_row-q-requires g c =
    let i = c.loop-k.invariant in (
      omega arith,
      (
        (omega arith, omega arith, c.requires.limit),
        λ j h.
            asked-row c.args.d c.args.c g.row.N (omega arith) (omega arith) c.loop-k.k i g.T.Test.way c.requires.asked j h
            (omega (arith, i.tested.taken.len)),
      ),
    )

pub returns-then-q : goal.returns-then-q
returns-then-q g c =
    let t = c.take_row-q.ensures in
    let i = c.loop-k.invariant in
    row_stopped c.args.d c.args.c g.row.N (omega arith) (omega arith) c.loop-k.k i t.upper_bound.1 (omega arith)
    (omega (arith, i.tested.taken.len)) t.by_index_2 (λ _. (omega arith, t.result_value (omega arith)))

pub loop-k-preserved : goal.loop-k-preserved
loop-k-preserved g c =
    let t = c.take_row-q in
    let i = c.loop-k.invariant in
    let whole : t.result ≡ g.row.N = omega (arith, t.ensures.upper_bound.0) in
    row_ahead c.args.d c.args.c g.row.N (omega arith) (omega arith) c.loop-k.k i
    (subst (λ x. RowTaken c.loop-k.k x c.loop-k.s c.loop-k.a t.new.s t.new.a) whole t.ensures.upper_bound.1)
    (omega (arith, i.tested.taken.len)) (λ j h. t.ensures.by_index_2 j (omega arith))

pub take_row-requires : goal.take_row-requires
take_row-requires g c =
    let i = c.loop-k.invariant in (
      omega arith,
      (
        (omega arith, omega arith, c.requires.limit),
        λ j h.
            asked-row c.args.d c.args.c g.row.N (omega arith) (omega arith) c.loop-k.k i g.T.Test.way c.requires.asked j
            (omega arith) (omega (arith, i.tested.taken.len)),
      ),
    )

pub returns : goal.returns
returns g c =
    let t = c.take_row.ensures in
    let i = c.loop-k.invariant in
    row_stopped c.args.d c.args.c g.row.N (omega arith) (omega arith) c.loop-k.k i t.upper_bound.1
    (omega (arith, t.upper_bound.0)) (omega (arith, i.tested.taken.len, t.upper_bound.0)) t.by_index_2
    (λ short. (omega (arith, i.tested.taken.len), t.result_value (omega (arith, i.tested.taken.len))))

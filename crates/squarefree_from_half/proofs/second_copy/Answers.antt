-- `second_copy` meets its contract: zeros up to r, and the second copy (Growing).
use mathlib.Core.Path.{◌∙◌, ap}
use native.Mathlib.Omega.{arith}
use borrow.Rule.Slice.PartMut.{mid_len}
use Rattle.definitions.specs.Requests.{zeros}
use Rattle.squarefree_from_half.proofs.Growing.{top_below, cleared_length, cleared_inside, second-done}
use borrow.Author.Rules.{rules}
use Rattle.squarefree_from_half.proofs.second_copy.Goals as goal

pub slice_bounds-fill-count : goal.slice_bounds-fill-count
slice_bounds-fill-count c = top_below c.args.r c.args.top c.args.a.now c.requires

pub slice_bounds-fill-start : goal.slice_bounds-fill-start
slice_bounds-fill-start c =
    let b = top_below c.args.r c.args.top c.args.a.now c.requires in
    let n = c.requires.len in
    search rules

pub negated_copy-requires : goal.negated_copy-requires
unfolding zeros
negated_copy-requires c =
    let p = c in
    let b = top_below p.args.r p.args.top p.args.a.now p.requires in
    let z = c.fill.ensures.after (λ y e. e)
    ∙ ap zeros (mid_len p.args.top p.args.r p.args.a.now (omega (arith, p.requires.len))) in
    let n = cleared_length p.args.r p.args.top p.args.a.now p.requires
    c.fill.new.self z in (
      cleared_inside p.args.r p.args.top p.args.a.now p.requires c.fill.new.self z,
      p.requires.squarefree.pos,
      omega (arith, n, p.requires.len),
      omega (arith, n, p.requires.len),
    )

pub returns : goal.returns
unfolding zeros
returns c =
    let q = c in
    let p = c in
    let z = q.fill.ensures.after (λ y e. e)
    ∙ ap zeros (mid_len p.args.top p.args.r p.args.a.now (omega (arith, p.requires.len))) in
    second-done p.args.r p.args.top p.args.a.now p.requires q.fill.new.self z _
    c.negated_copy.ensures

-- `without_steps` meets its contract: F(1), F(2), I(1) or I(2) in the first entries, and z^t for z (`LaidOut`).
use Prim.Native.Nat.{◌%◌}
use mathlib.Core.Path.{◌≡◌, sym}
use mathlib.Core.Bool.{cond}
use native.Mathlib.Omega.{arith}
use lib.Dec.{eqb}
use Rattle.definitions.specs.Numbers.{m_of}
use Rattle.whole_from_half.proofs.Laying.{LaidOut, laid_out, tiny_m}
use Rattle.whole_from_half.proofs.without_steps.Goals as goal
use Rattle.whole_from_half.proofs.without_steps.Goals.{After-degree_from-top, Start}

module _ (q : After-degree_from-top) where
  abbrev start : Start
  start = q.before

  out : LaidOut start.args.kind start.args.n start.args.parts start.args.b.now q.degree_from-top.result
  out = laid_out _ _ _ _ start.requires.0 _ q.degree_from-top.ensures

  parity : cond (eqb (start.args.n % 2) 0) 2 1 ≡ m_of start.args.n
  parity = tiny_m _ _ _ _ start.requires.0 start.requires.1

pub overflow_add-size : goal.overflow_add-size
overflow_add-size c = omega (arith, (out (goal.at.overflow_add-size c).After-degree_from-top).top-room)

pub slice_bounds-of_one_or_two-end : goal.slice_bounds-of_one_or_two-end
slice_bounds-of_one_or_two-end c = (out (goal.at.slice_bounds-of_one_or_two-end c).After-degree_from-top).top-room

pub slice_bounds-of_one_or_two-end-2 : goal.slice_bounds-of_one_or_two-end-2
slice_bounds-of_one_or_two-end-2 c = sym (out (goal.at.slice_bounds-of_one_or_two-end-2 c).After-degree_from-top).part_length

pub of_one_or_two-requires : goal.of_one_or_two-requires
of_one_or_two-requires c =
    let q = (goal.at.of_one_or_two-requires c).After-degree_from-top in ((start q).requires.0.known, (out q).part_of-m (parity q))

pub spread_by-requires : goal.spread_by-requires
spread_by-requires c =
    let q = (goal.at.spread_by-requires c).After-degree_from-top in
    ((out q).t_pos, (out q).spaced-length (parity q) _ c.of_one_or_two.ensures)

pub returns : goal.returns
returns c =
    let q = (goal.at.returns c).After-degree_from-top in
    (out q).spaced (parity q) _ c.of_one_or_two.ensures _
    c.spread_by.ensures

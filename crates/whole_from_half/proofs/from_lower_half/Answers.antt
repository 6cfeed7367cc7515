-- `from_lower_half` meets its contract: the polynomial of m in the first entries, and z^t for z (`LaidOut`).
use Prim.Native.Nat.{◌+◌, ◌*◌, ◌%◌, ◌≤◌}
use mathlib.Core.Path.{◌≡◌, sym, ◌∙◌, ap, subst}
use mathlib.Core.Bool.{cond}
use native.Mathlib.Omega.{arith}
use lib.Dec.{eqb}
use Rattle.definitions.specs.Numbers.{phi, m_of}
use Rattle.definitions.specs.Polynomials.{degree}
use Rattle.index.proofs.Laws.{r_small}
use Rattle.squarefree_from_half.specs.Growth.{Lower}
use Rattle.squarefree_from_half.proofs.Growing.{lower-front}
use Rattle.whole_from_half.proofs.Laying.{LaidOut, laid_out, r_is, free_is, m_by_parity}
use Rattle.whole_from_half.proofs.from_lower_half.Goals as goal
use Rattle.whole_from_half.proofs.from_lower_half.Goals.{After-degree_from-top, Start}

module _ (q : After-degree_from-top) where
  abbrev start : Start
  start = q.before

  out : LaidOut start.args.kind start.args.n start.args.parts start.args.b.now q.degree_from-top.result
  out = laid_out _ _ _ _ start.requires.0 _ q.degree_from-top.ensures

  parity : cond (eqb (start.args.n % 2) 0) (2 * start.args.parts.r) start.args.parts.r ≡ m_of start.args.n
  parity = m_by_parity _ _ _ _ start.requires.0

pub overflow_add-size : goal.overflow_add-size
overflow_add-size c = omega (arith, (out (goal.at.overflow_add-size c).After-degree_from-top).top-room)

pub slice_bounds-of_m-end : goal.slice_bounds-of_m-end
slice_bounds-of_m-end c = (out (goal.at.slice_bounds-of_m-end c).After-degree_from-top).top-room

pub slice_bounds-of_m-end-2 : goal.slice_bounds-of_m-end-2
slice_bounds-of_m-end-2 c = sym (out (goal.at.slice_bounds-of_m-end-2 c).After-degree_from-top).part_length

pub of_m-requires : goal.of_m-requires
of_m-requires c =
    let q = (goal.at.of_m-requires c).After-degree_from-top in
    let p = start q in
    let r = r_is _ _ _ _ p.requires.0 in (
      lower-front p.args.kind p.args.parts.r (q.degree_from-top.result + 1) p.args.b.now
          (subst (λ x. degree p.args.kind x + 1 ≤ q.degree_from-top.result + 1) (sym r) (out q).r-room)
          (subst (λ x. Lower p.args.kind x p.args.b.now) (sym r) p.requires.1),
      p.requires.0.known,
      free_is _ _ _ _ p.requires.0 ∙ ap phi (sym r),
      subst (λ x. x ≤ 65535) (sym r) (r_small p.args.n p.requires.0.good),
      (out q).part_of-m (parity q),
    )

pub spread_by-requires : goal.spread_by-requires
spread_by-requires c =
    let q = (goal.at.spread_by-requires c).After-degree_from-top in
    ((out q).t_pos, (out q).spaced-length (parity q) _ c.of_m.ensures)

pub returns : goal.returns
returns c =
    let q = (goal.at.returns c).After-degree_from-top in
    (out q).spaced (parity q) _ c.of_m.ensures _ c.spread_by.ensures

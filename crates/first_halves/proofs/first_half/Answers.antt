-- `first_half`: that of F(m), and spread (FirstHalves).
use Rattle.std.proofs.Common.{◌≡◌, ◌+◌, ◌*◌, ◌≤◌, List, ◌++◌, length, drop, ℤ, arith, sym, ◌∙◌, ap}
use Rattle.std.proofs.Math.Nat as NatL
use Rattle.std.proofs.Math.ListN.{length-append, length-drop}
use lib.Seq.{length-take-le}
use Rattle.definitions.specs.Polynomials.{polynomial}
use Rattle.definitions.specs.Numbers.{r_of, m_of}
use Rattle.definitions.specs.KeptHalf.{half_degree}
use Rattle.step_laws.specs.Firsts.{length-firsts}
use Rattle.index.proofs.Laws.{parts_half}
use Rattle.first_halves.proofs.FirstHalves.{t_some, half-long, half_is}
use Rattle.first_halves.proofs.first_half.Goals as goal
use Rattle.first_halves.proofs.first_half.Goals.{After-half_degree-d, After-half_for_m-height}

-- D, and that it has room
module _ (c : After-half_degree-d) where
  half : c.half_degree-d.result ≡ half_degree 1 (r_of c.args.n)
  half = parts_half c.args.n c.args.parts c.requires.0 1 _ c.half_degree-d.ensures

  long : length c.args.b.now ≡ c.half_degree-d.result * c.args.parts.t + 1
  long =
      c.requires.3 ∙ half-long c.args.n c.args.parts c.requires.0 c.requires.1 c.requires.2
      ∙ ap (λ d. d * c.args.parts.t + 1) (sym half)

  room : c.half_degree-d.result + 1 ≤ length c.args.b.now
  room =
      let t = t_some c.args.n c.args.parts c.requires.0 c.requires.1 c.requires.2 in
      omega (arith, long, NatL.le-mul_of_pos_right c.half_degree-d.result t)

pub slice_bounds-half_for_m-end : goal.slice_bounds-half_for_m-end
slice_bounds-half_for_m-end c = room (goal.at.slice_bounds-half_for_m-end c).After-half_degree-d

pub slice_bounds-half_for_m-end-2 : goal.slice_bounds-half_for_m-end-2
slice_bounds-half_for_m-end-2 c =
    sym (length-take-le _ _ (room (goal.at.slice_bounds-half_for_m-end-2 c).After-half_degree-d))

pub half_for_m-height-requires : goal.half_for_m-height-requires
half_for_m-height-requires c =
    let d = (goal.at.half_for_m-height-requires c).After-half_degree-d in (
      c.requires.0,
      c.requires.1,
      c.requires.2,
      length-take-le _ _ (room d) ∙ ap (λ k. k + 1) (half d),
    )

-- the first half of F(m), and what stands behind it
module _ (c : After-half_for_m-height) where
  abbrev at : After-half_degree-d
  at = c.before.before

  abbrev first : List ℤ
  first = c.half_for_m-height.new.a

  abbrev rest : List ℤ
  rest = drop (c.half_degree-d.result + 1) c.args.b.now

  spaced : length (first ++ rest) ≡ c.half_degree-d.result * c.args.parts.t + 1
  spaced =
      length-append first rest
      ∙ omega (
        arith,
        ap length c.half_for_m-height.ensures.a_after,
        length-firsts (half_degree 1 (r_of c.args.n) + 1) (polynomial 1 (m_of c.args.n)),
        half at,
        length-drop (c.half_degree-d.result + 1) c.args.b.now,
        long at,
        room at,
      )

pub spread_by-requires : goal.spread_by-requires
spread_by-requires c = (
  t_some c.args.n c.args.parts c.requires.0 c.requires.1 c.requires.2,
  spaced (goal.at.spread_by-requires c).After-half_for_m-height,
)

pub returns-clause-b_after : goal.returns-clause-b_after
returns-clause-b_after c =
    let g = (goal.at.returns-clause-b_after c).After-half_for_m-height in
    half_is c.args.n c.args.parts c.requires.0 c.requires.1 c.requires.2 (first g) (rest g) _
    c.half_for_m-height.ensures.a_after (spaced g ∙ ap (λ d. d * c.args.parts.t + 1) (half (at g)))
    c.spread_by.ensures

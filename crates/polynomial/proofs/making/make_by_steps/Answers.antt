-- `make_by_steps` meets its contract: the kept half after all divisors, its height and peak, and the outcome (Stepping).
use Rattle.std.proofs.Common.{◌≡◌, ◌+◌, ◌≤◌, length, take, sym, ◌∙◌, ap}
use Rattle.std.proofs.Math.Numerals.{add-one}
use Rattle.std.proofs.lemmas.Result.{err_from_is_err_and}
use lib.Seq.{length-take-le}
use Rattle.definitions.specs.Numbers.{r_of}
use Rattle.definitions.specs.Polynomials.{degree}
use Rattle.definitions.specs.KeptHalf.{half_degree}
use Rattle.definitions.specs.Requests.{zeros}
use Rattle.kept_half.proofs.Walked.{half_is}
use Rattle.polynomial.proofs.Stepping.{steps_due, half_room, rest-length, still_ready, bounded, lower, made_over, made_tall, made_done}
use Rattle.polynomial.proofs.making.make_by_steps.Goals as goal
use Rattle.polynomial.proofs.making.make_by_steps.Goals.{After-half_degree-half}

module _ (c : After-half_degree-half) where
  is : c.half_degree-half.result ≡ half_degree c.args.kind (r_of c.args.n)
  is = half_is _ _ _ (steps_due c.requires.0 c.requires.1) _ c.half_degree-half.ensures

  room : c.half_degree-half.result + 1 ≤ length c.args.b.now
  room = half_room _ _ _ _ c.requires.0 c.requires.1 _ is

  part : length (take (c.half_degree-half.result + 1) c.args.b.now) ≡ c.half_degree-half.result + 1
  part = length-take-le (c.half_degree-half.result + 1) c.args.b.now room

pub slice_bounds-all_steps-end : goal.slice_bounds-all_steps-end
slice_bounds-all_steps-end c = room (goal.at.slice_bounds-all_steps-end c).After-half_degree-half

pub slice_bounds-all_steps-end-2 : goal.slice_bounds-all_steps-end-2
slice_bounds-all_steps-end-2 c = sym (part (goal.at.slice_bounds-all_steps-end-2 c).After-half_degree-half)

pub all_steps-requires : goal.all_steps-requires
all_steps-requires c =
    let q = (goal.at.all_steps-requires c).After-half_degree-half in
    (steps_due c.requires.0 c.requires.1, part q ∙ ap (λ k. k + 1) (is q), c.requires.2)

pub returns-in_default : goal.returns-in_default
returns-in_default c =
    let q = (goal.at.returns-in_default c).After-half_degree-half in
    let zeroed = c.in_default.ensures in
    let long = rest-length _ _ _ _ c.requires.0 c.requires.1 _ (is q) c.all_steps.new.a zeroed.ran.len in
    made_over c.args.kind c.args.n c.args.h c.args.w _ zeroed.ran.over
    (c.clear.ensures ∙ ap zeros (long ∙ (c.requires.0.room ∙ add-one (degree c.args.kind c.args.n))))

pub lay_out-requires : goal.lay_out-requires
lay_out-requires c =
    let i = is (goal.at.lay_out-requires c).After-half_degree-half in
    let run = c.in-Ok.ensures in (
      still_ready _ _ _ _ c.requires.0 c.requires.1 _ i _ run.len,
      lower _ _ _ _ c.requires.0 c.requires.1 _ i _ run.len c.args.w c.requires.2.1 run.half run.inside,
      bounded _ _ _ _ c.requires.0 c.requires.1 _ i _ run.len _ run.bounded,
    )

pub returns-in_err-laid : goal.returns-in_err-laid
returns-in_err-laid c =
    let p = err_from_is_err_and c.from_residual.result c.from_residual.ensures.1 in
    rw (p.1, p.2) (made_tall c.args.kind c.args.n c.args.h c.args.w _ c.in-Ok.ensures.over
    c.in_err-laid.ensures.0 c.in_err-laid.ensures.1)

pub returns : goal.returns
returns c =
    let run = c.in-Ok.ensures in
    made_done c.args.kind c.args.n c.args.h c.args.w _ run.over c.in_ok-laid.laid c.in_ok-laid.ensures _ run.additions

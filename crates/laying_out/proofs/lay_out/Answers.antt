-- `lay_out` meets its contract: the height and the peak are those of the lower half, and by them the outcome.
use Rattle.std.proofs.Common.{◌≡◌, ◌+◌, ◌*◌, ◌≤◌, length, arith, sym, ◌∙◌, ap, ap₂}
use Rattle.std.proofs.Math.Numerals.{add-one}
use Rattle.definitions.specs.Numbers.{r_of}
use Rattle.definitions.specs.Polynomials.{degree}
use Rattle.definitions.specs.KeptHalf.{half_degree}
use Rattle.definitions.specs.Requests.{zeros}
use Rattle.definitions.specs.Answer.{height, peak}
use Rattle.index.proofs.Laws.{parts_half}
use Rattle.laying_out.specs.declared.Laid.{Laid}
use Rattle.laying_out.proofs.Ending.{peak-room, half_room, part_length, top_is}
use Rattle.laying_out.proofs.lay_out.Goals as goal
use Rattle.laying_out.proofs.lay_out.Goals.{After-half_degree-half, After-peak_within-top}

module _ (c : After-half_degree-half) where
  half_is : c.half_degree-half.result ≡ half_degree c.args.kind (r_of c.args.n)
  half_is = parts_half c.args.n c.args.parts c.requires.0.parts c.args.kind _ c.half_degree-half.ensures

  room : c.half_degree-half.result + 1 ≤ length c.args.b.now
  room = half_room _ _ _ _ c.requires.0 _ half_is

-- after the height
told : (c : After-peak_within-top) → (c.peak_within-top.result.height ≡ height c.args.kind c.args.n)
    × (c.peak_within-top.result.place * c.args.parts.t ≡ peak c.args.kind c.args.n)
told c = top_is _ _ _ _ c.requires.0 _ (half_is c.before) c.requires.1 _ c.peak_within-top.ensures

pub slice_bounds-peak_within-end : goal.slice_bounds-peak_within-end
slice_bounds-peak_within-end c = room (goal.at.slice_bounds-peak_within-end c).After-half_degree-half

pub slice_bounds-peak_within-end-2 : goal.slice_bounds-peak_within-end-2
slice_bounds-peak_within-end-2 c =
    let h = (goal.at.slice_bounds-peak_within-end-2 c).After-half_degree-half in
    sym (part_length _ _ _ _ c.requires.0 _ (half_is h))

pub peak_within-top-requires : goal.peak_within-top-requires
peak_within-top-requires c =
    rw (half_is (goal.at.peak_within-top-requires c).After-half_degree-half) c.requires.2

pub returns-then-h-height : goal.returns-then-h-height
returns-then-h-height c =
    let t = told (goal.at.returns-then-h-height c).After-peak_within-top in
    (omega (arith, t.0), c.clear.ensures ∙ ap zeros (c.requires.0.room ∙ add-one (degree c.args.kind c.args.n)))

pub overflow_mul-peak : goal.overflow_mul-peak
overflow_mul-peak c =
    omega (arith, (told (goal.at.overflow_mul-peak c).After-peak_within-top).1, peak-room _ _ _ _ c.requires.0)

pub returns : goal.returns
returns c =
    let t = told (goal.at.returns c).After-peak_within-top in (
      omega (arith, t.0),
      c.from_lower_half.ensures,
      ap₂ {C = Laid} (λ y z. record { height = y; peak = z }) t.0 t.1,
    )

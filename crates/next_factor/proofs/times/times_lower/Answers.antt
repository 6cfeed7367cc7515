-- `times_lower` meets its contract, either way (Multiplying).
use Prim.Native.Nat.{◌+◌, ◌≤◌}
use mathlib.Core.Path.{◌≡◌, sym, ◌∙◌, ap}
use native.Mathlib.Omega.{arith}
use native.Mathlib.Numerals.{add-one}
use lib.ListN.{length, take}
use lib.Seq.{length-take-le}
use Rattle.definitions.specs.Numbers.{phi}
use Rattle.index.proofs.Laws.{parts_phi}
use Rattle.next_factor.specs.Times.{factor}
use Rattle.next_factor.proofs.Multiplying.{multiply_asks, by_steps, multiplied_out}
use Rattle.next_factor.proofs.times.times_lower.Goals as goal
use Rattle.next_factor.proofs.times.times_lower.Goals.{Else-steps_serve, Start}

-- where steps do not serve, F(n) is made
module _ (e : Else-steps_serve) where
  abbrev start : Start
  start = e.before.before.before.before

  terms : start.args.parts.phi ≡ phi start.args.n
  terms = parts_phi start.args.n start.args.parts start.requires.0.apart

  room : start.args.parts.phi + 1 ≤ length e.steps_serve.new.scratch
  room = omega (arith, terms, e.steps_serve.auto.scratch, start.requires.1)

  made : take (start.args.parts.phi + 1) e.steps_serve.new.scratch ≡ factor start.args.n
  made =
      ap (λ k. take k e.steps_serve.new.scratch)
      (ap (λ x. x + 1) terms ∙ add-one (phi start.args.n))
      ∙ e.steps_serve.ensures.1 e.if-steps_serve.false

pub times_factor-requires : goal.times_factor-requires
times_factor-requires c =
    let K = c.requires.0 in
    (K.apart, K.good, (c.steps_serve.ensures.0 c.if-steps_serve.true).other)

pub returns-then-steps_serve : goal.returns-then-steps_serve
returns-then-steps_serve c =
    let s = c in
    by_steps s.requires.0 (s.steps_serve.ensures.0 c.if-steps_serve.true).light _
    c.times_factor.ensures

pub overflow_add-size : goal.overflow_add-size
overflow_add-size c =
    record { fits = omega (arith, room (goal.at.overflow_add-size c).Else-steps_serve) }

pub slice_bounds-multiply-end : goal.slice_bounds-multiply-end
slice_bounds-multiply-end c =
    room (goal.at.slice_bounds-multiply-end c).Else-steps_serve

pub slice_bounds-multiply-end-2 : goal.slice_bounds-multiply-end-2
slice_bounds-multiply-end-2 c =
    sym (length-take-le _ _ (room (goal.at.slice_bounds-multiply-end-2 c).Else-steps_serve))

pub multiply-requires : goal.multiply-requires
multiply-requires c =
    multiply_asks (start (goal.at.multiply-requires c).Else-steps_serve).requires.0 (made (goal.at.multiply-requires c).Else-steps_serve)

pub returns : goal.returns
returns c =
    let e = (goal.at.returns c).Else-steps_serve in
    multiplied_out (start e).requires.0 (made e) _ _ c.multiply.ensures.value c.multiply.ensures.b_after

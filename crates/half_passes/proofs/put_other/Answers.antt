-- `put_other`: each arm by its own width, the last by the only one left (Least).
use Rattle.std.proofs.Common.{◌≡◌, ◌∙◌, ap, length, arith, le-mul_of_pos_right}
use Rattle.widths.proofs.Least.{width_last, width_bounds}
use Rattle.record.proofs.Passes.{length_at}
use Rattle.half_passes.proofs.put_other.Goals as goal
use Rattle.half_passes.proofs.put_other.Goals.{In_default}

pub overflow_add-half : goal.overflow_add-half
overflow_add-half c = omega (arith, le-mul_of_pos_right c.args.count (width_bounds c.args.w c.requires.0).0)

last : (c : In_default) → c.args.w ≡ 8
last c =
    let r = c.in_default.in_default-own.rest in
    width_last c.args.w c.requires.0 r.0.0.1 r.0.1 r.1

pub new-requires-in_default : goal.new-requires-in_default
new-requires-in_default c =
    let p = rw (last (goal.at.new-requires-in_default c).In_default) at c.requires in
    (omega arith, (p.0, p.1))

pub put_at-requires : goal.put_at-requires
put_at-requires c =
    let p = rw c.in-1.is at c.requires in
    (omega arith, (ap length c.new.ensures ∙ length_at 1 _ _, p.2))

pub put_at-requires-in-2 : goal.put_at-requires-in-2
put_at-requires-in-2 c =
    let p = rw c.in-2.is at c.requires in
    (omega arith, (ap length c.new-in-2.ensures ∙ length_at 2 _ _, p.2))

pub put_at-requires-in-4 : goal.put_at-requires-in-4
put_at-requires-in-4 c =
    let p = rw c.in-4.is at c.requires in
    (omega arith, (ap length c.new-in-4.ensures ∙ length_at 4 _ _, p.2))

pub put_at-requires-in_default : goal.put_at-requires-in_default
put_at-requires-in_default c =
    let p = rw (last (goal.at.put_at-requires-in_default c).In_default) at c.requires in
    (omega arith, (ap length c.new-in_default.ensures ∙ length_at 8 _ _, p.2))

pub returns-in_default : goal.returns-in_default
returns-in_default c =
    rw (last (goal.at.returns-in_default c).In_default, ← c.new-in_default.ensures) c.put_at-in_default.ensures

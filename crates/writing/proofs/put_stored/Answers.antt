-- `put_stored`: each arm by its own width, the last by the only one left (Least).
use Rattle.std.proofs.Common.{◌≡◌, arith}
use Rattle.widths.proofs.Least.{width_last}
use Rattle.writing.proofs.put_stored.Goals as goal
use Rattle.writing.proofs.put_stored.Goals.{In_default}

last : (c : In_default) → c.args.w ≡ 8
last c =
    let r = c.in_default.in_default-own.rest in
    width_last c.args.w c.requires.0 r.0.0.1 r.0.1 r.1

pub put_body-requires : goal.put_body-requires
put_body-requires c =
    let p = rw c.in-1.is at c.requires in
    (omega arith, omega arith, p.1, p.2)

pub returns-in-1 : goal.returns-in-1
returns-in-1 c = rw c.in-1.is c.put_body.ensures

pub put_body-requires-in-2 : goal.put_body-requires-in-2
put_body-requires-in-2 c =
    let p = rw c.in-2.is at c.requires in
    (omega arith, omega arith, p.1, p.2)

pub returns-in-2 : goal.returns-in-2
returns-in-2 c = rw c.in-2.is c.put_body-in-2.ensures

pub put_body-requires-in-4 : goal.put_body-requires-in-4
put_body-requires-in-4 c =
    let p = rw c.in-4.is at c.requires in
    (omega arith, omega arith, p.1, p.2)

pub returns-in-4 : goal.returns-in-4
returns-in-4 c = rw c.in-4.is c.put_body-in-4.ensures

pub put_body-requires-in_default : goal.put_body-requires-in_default
put_body-requires-in_default c =
    let p = rw (last (goal.at.put_body-requires-in_default c).In_default) at c.requires in
    (omega arith, omega arith, p.1, p.2)

pub returns-in_default : goal.returns-in_default
returns-in_default c = rw (last (goal.at.returns-in_default c).In_default) c.put_body-in_default.ensures

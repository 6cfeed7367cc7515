-- `listing::reply::put_reply` meets its contract: what the request answers and leaves is what is printed (`Replying`).
use native.Mathlib.Omega.{arith}
use lib.IntN.{pos}
use mir.Syntax.{w64}
use mir.Val.{SFits}
use mir.Facts.{to_z-of_z}
use Rattle.text.proofs.Putting.{then}
use Rattle.listing.proofs.Replying.{degree_fits, replied, replied_wrong}
use Rattle.listing.proofs.reply.put_reply.Goals as goal

pub returns-in_default-clause-puts : goal.returns-in_default-clause-puts
returns-in_default-clause-puts c = rw (← replied_wrong _ _ c.in_default.ensures.0) c.put_wrong.ensures.puts

pub put_tail-requires-clause-degree_in_bounds : goal.put_tail-requires-clause-degree_in_bounds
put_tail-requires-clause-degree_in_bounds c =
    let q = c.in-Some.q in
    let a = c.polynomial-a in
    λ z. omega (arith, a.auto.buf, degree_fits q.kind q.n _ _ _ a.ensures.value z)

pub returns-clause-puts : goal.returns-clause-puts
returns-clause-puts c =
    let q = c.in-Some.q in
    let a = c.polynomial-a in
    let f : SFits w64 (pos q.h) = record { sfits = omega (arith, c.in-Some.ensures.1) } in
    rw (← replied c.args.number c.args.line.now q c.in-Some.ensures.0 a.result c.args.entries.now a.new.buf
    c.requires.0 (rw (to_z-of_z f) at a.ensures.value) (rw (to_z-of_z f) at a.ensures.buf_after))
    (then c.put_head-p.ensures.puts c.put_tail.ensures.puts)

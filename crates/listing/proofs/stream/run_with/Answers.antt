-- `listing::stream::run_with` meets its contract, by the steps of `Streaming`.
use Rattle.std.proofs.Common.{◌≡◌, length, arith}
use Rattle.listing.proofs.Streaming.{going_start, ends, stops, pushes, closes}
use Rattle.listing.proofs.stream.run_with.Goals as goal
use Rattle.listing.proofs.stream.run_with.Goals.{then-b-eq10+else-out-made-lt-MOST, else-b-eq10}

pub loop-i-init : goal.loop-i-init
loop-i-init c = going_start _ _ _

pub returns-then-out-made-lt-MOST : goal.returns-then-out-made-lt-MOST
returns-then-out-made-lt-MOST c =
    stops _ _ _ c.loop-i.invariant c.loop-i-test.true c.if-b-eq10.true c.if-out-made-lt-MOST.true

pub loop-i-preserved : goal.loop-i-preserved
loop-i-preserved c =
    let g = c.loop-i.invariant in
    let here = c.loop-i-test.true in
    elim c.if-b-eq10.branch [
      | then-b-eq10+else-out-made-lt-MOST w ↦
          let p = w.put_closing-made.ensures in
          rw (w.out-is, w.line-is, w.next.ensures, w.made-is)
          (closes _ _ _ g here w.if-b-eq10.true w.if-out-made-lt-MOST.false p.puts p.upper_bound)
      | else-b-eq10 w ↦ rw (w.out-is, w.line-is, w.push.ensures, w.made-is) (pushes _ _ _ g here w.if-b-eq10.false)
    ]

pub returns : goal.returns
returns c =
    let g = c.loop-i.invariant in
    let e : c.loop-i.i ≡ length c.args.piece.now = omega (arith, g.within) in
    rw (← e) (ends _ _ _ g c.loop-i-test.false)

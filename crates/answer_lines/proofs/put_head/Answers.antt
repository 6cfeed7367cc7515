-- `answer_lines::put_head` meets its contract: its six parts, one after the other.
use native.Mathlib.Omega.{arith}
use mir.Syntax.{w64}
use mir.Facts.{to_z-of_z}
use Rattle.answer_lines.proofs.Head.{put_headed}
use borrow.Author.Rules.{rules}
use Rattle.answer_lines.proofs.put_head.Goals as goal

pub returns : goal.returns
returns c =
    let first = rw c.letter_of.ensures at c.put-p.ensures in
    let gain = rw (to_z-of_z {w = w64} {z = c.args.a.gain} (record { sfits = search rules })) at
    c.put_signed-p.ensures.puts in record {
      puts = put_headed c.args.kind c.args.n c.args.a first c.put_three-p.ensures.puts
          c.put_three-p-2.ensures.puts gain
          c.put-p-2.ensures c.put.ensures;
      upper_bound = omega (
        arith,
        first.place,
        c.put_three-p.ensures.upper_bound,
        c.put_three-p-2.ensures.upper_bound,
        c.put_signed-p.ensures.upper_bound,
        c.put-p-2.ensures.place,
        c.put.ensures.place,
      );
    }

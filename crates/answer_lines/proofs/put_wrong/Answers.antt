-- `answer_lines::put_wrong` meets its contract: three parts, one after the other.
use native.Mathlib.Omega.{arith}
use Rattle.answer_lines.specs.Printed.{wrong_line}
use Rattle.text.proofs.Putting.{then}
use Rattle.answer_lines.proofs.put_wrong.Goals as goal

pub returns : goal.returns
unfolding wrong_line
returns c = let first = c.put-p.ensures in
    let last = c.put.ensures in record {
      puts = then first (then c.put_item-p.ensures.puts last);
      upper_bound = omega (arith, first.place, c.put_item-p.ensures.upper_bound, last.place);
    }

-- `streams::put_line` meets its contract: three parts, one after the other.
use native.Mathlib.Omega.{arith}
use Rattle.text.proofs.Putting.{then}
use Rattle.streams.proofs.put_line.Goals as goal

pub returns : goal.returns
returns c = let first = c.put_text-p.ensures in
    let number = c.put_item-p.ensures in
    let last = c.put_text.ensures in record {
      puts = then first (then number.puts last);
      upper_bound = omega (
        arith,
        first.place,
        number.upper_bound,
        last.place,
        c.requires,
      );
    }

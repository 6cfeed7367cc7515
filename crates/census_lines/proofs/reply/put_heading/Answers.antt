-- `census_lines::reply::put_heading` meets its contract: the word, then the two bounds.
use native.Mathlib.Omega.{arith}
use Rattle.text.proofs.Putting.{then}
use Rattle.census_lines.specs.Printed.{word, heading_of}
use Rattle.census_lines.proofs.reply.put_heading.Goals as goal

pub returns : goal.returns
unfolding heading_of word
returns c = let last = c in
    let first = c in record {
      puts = then first.put_text-p.ensures last.put_two_more.ensures.puts;
      upper_bound = omega (arith, first.put_text-p.ensures.place, last.put_two_more.ensures.upper_bound);
    }

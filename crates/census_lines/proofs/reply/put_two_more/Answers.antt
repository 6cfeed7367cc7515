-- `census_lines::reply::put_two_more` meets its contract: three parts, one after the other.
use native.Mathlib.Omega.{arith}
use mathlib.Core.List.{[], ◌∷◌, append_assoc}
use lib.IntN.{pos}
use Rattle.text.proofs.Putting.{then, spaced-append}
use Rattle.census_lines.specs.Printed.{two_more}
use Rattle.census_lines.proofs.reply.put_two_more.Goals as goal

pub returns : goal.returns
unfolding two_more
returns c = let last = c in
    let second = c in
    let first = c in
    let a = first.args in record {
      puts = rw (spaced-append (pos a.x ∷ []) (pos a.y ∷ []), append_assoc)
          (then first.put_item-p.ensures.puts (then second.put_item-p-2.ensures.puts last.put.ensures));
      upper_bound = omega (arith, first.put_item-p.ensures.upper_bound, second.put_item-p-2.ensures.upper_bound, last.put.ensures.place);
    }

-- `answer_lines::put_three` meets its contract: three items, one after the other.
use native.Mathlib.Omega.{arith}
use mathlib.Core.List.{[], ◌∷◌}
use lib.IntN.{pos}
use Rattle.text.specs.Text.{spaced}
use Rattle.text.proofs.Putting.{then, spaced-append}
use Rattle.answer_lines.proofs.put_three.Goals as goal

pub returns : goal.returns
unfolding spaced
returns c = let s = c in
    let two = then c.put_item-q.ensures.puts
    c.put_item.ensures.puts in record {
      puts = rw (
        spaced-append (pos s.args.x ∷ []) (pos s.args.y ∷ pos s.args.z ∷ []),
        spaced-append (pos s.args.y ∷ []) (pos s.args.z ∷ []),
      )
          (then c.put_item-p.ensures.puts two);
      upper_bound = omega (
        arith,
        c.put_item-p.ensures.upper_bound,
        c.put_item-q.ensures.upper_bound,
        c.put_item.ensures.upper_bound,
      );
    }

-- `size_of` meets its contract: phi is one of the parts, and the gain is no negative number.
use Rattle.index.proofs.Laws.{parts_phi}
use Rattle.next_factor.proofs.Delivered.{seen-gain}
use Rattle.next_factor.proofs.size_of.Goals as goal

pub returns : goal.returns
returns c =
    let p = c in
    record {
      degree = parts_phi p.args.n p.args.parts p.requires.1;
      gain = seen-gain p.args.n p.requires.0 c.gain_of.ensures.0 c.unsigned_abs.ensures.value;
    }

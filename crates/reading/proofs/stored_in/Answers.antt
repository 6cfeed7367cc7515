-- `stored_in`: by the count in the header, which is small (Reading).
use Prim.Native.Nat.{◌≤◌}
use mathlib.Core.Path.{◌∙◌, ap}
use native.Mathlib.Omega.{arith}
use Rattle.widths.proofs.Digits.{bytes_each}
use Rattle.record.proofs.Headers.{right}
use Rattle.forms.specs.Format.{stored}
use Rattle.forms.proofs.Reading.{count_small}
use Rattle.reading.proofs.stored_in.Goals as goal
use Rattle.reading.proofs.stored_in.Goals.{After-count_in}

pub count_in-requires : goal.count_in-requires
count_in-requires c = (right _ _ c.requires.1).long

small : (c : After-count_in) → c.count_in.result ≤ 65536
small c =
    let known = c in
    let bs = known.args.bytes.now in
    omega (
      arith,
      c.count_in.ensures,
      count_small _ bs known.requires.1 (bytes_each bs (λ i. (known.type_inv.bytes i).fits)),
    )

pub stored_of-requires : goal.stored_of-requires
stored_of-requires c = small (goal.at.stored_of-requires c).After-count_in

pub returns : goal.returns
returns c = (
  c.stored_of.ensures.0 ∙ ap (stored c.args.form) c.count_in.ensures,
  omega (arith, small (goal.at.returns c).After-count_in),
)

-- `store`: by the form (Converting).
use mathlib.Core.Path.{ap, ◌∙◌}
use mathlib.Core.List.{List, ◌++◌}
use Prim.Native.Nat.{ℕ}
use lib.ListN.{drop}
use Rattle.widths.proofs.Digits.{bytes_each}
use Rattle.forms.specs.declared.Form.TheVariants.{Half}
use Rattle.forms.specs.Format.{size_in}
use Rattle.conversions.proofs.Converting.{front_record}
use Rattle.conversions.proofs.converter.store.Goals as goal

pub put_front-requires : goal.put_front-requires
put_front-requires c = rw c.in-Whole.is at c.requires

pub put_whole-requires : goal.put_whole-requires
put_whole-requires c = rw c.in-Half.is at c.requires

pub returns-in-Whole : goal.returns-in-Whole
returns-in-Whole c =
    let told = c in
    let known = c in
    let start = c in
    let bs = start.args.bytes.now in
    let pre = rw told.in-Whole.is at start.requires.0 in
    rw told.in-Whole.is (c.put_front.ensures
    ∙ ap (λ (x : List ℕ). x ++ drop (size_in Half bs) start.args.out.now)
    (front_record bs (bytes_each bs (λ i. (known.type_inv.bytes i).fits)) pre))

pub returns-in-Half : goal.returns-in-Half
returns-in-Half c = rw c.in-Half.is c.put_whole.ensures

-- `census_lines::asked::has_newline` meets its contract: where the first line ends is its length.
use mathlib.Core.Path.{sym, ◌∙◌, ap}
use lib.ListN.{length}
use lib.Seq.{length-take-le}
use lib.Dec.{ltb}
use Rattle.census_lines.proofs.asked.has_newline.Goals as goal

pub returns : goal.returns
returns c =
    let input = c.args.input.now in
    let found = c.first_line_end.ensures in
    ap (λ n. ltb n (length input)) (sym (length-take-le _ _ found.upper_bound) ∙ ap length found.input_value)

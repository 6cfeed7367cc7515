-- `census_lines::asked::first_line_end` meets its contract: the bytes before the newline are counted.
use Rattle.std.proofs.Common.{◌≡◌, ◌∙◌, length, not, rules, tests}
use Rattle.std.proofs.lemmas.Iterator.{YieldsList-from_slice}
use Rattle.std.proofs.lemmas.Iterator.Consumers.{count_from_yields_List}
use Rattle.std.proofs.lemmas.Iterator.Search.{YieldsList-from_take_while}
use Rattle.std.proofs.lemmas.List.Folds.{length-prefix_len}
use Rattle.std.proofs.Math.Dec.{eqb}
use Rattle.census_lines.specs.Asked.{first_line}
use Rattle.census_lines.proofs.FirstLine.{counted, front, within}
use Rattle.census_lines.proofs.asked.first_line_end.Goals as goal

pub returns : goal.returns
returns c =
    let input = c.args.input.now in
    let is : c.count.result ≡ length (first_line input) =
    count_from_yields_List c.take_while.result _ c.count.ensures.ran
    (YieldsList-from_take_while _ (λ x. not (eqb x 10)) (YieldsList-from_slice input (cc)) c.take_while.ensures.closure
    c.take_while.ensures.done (λ x b q k. search (rules, tests)))
    ∙ length-prefix_len (λ x. not (eqb x 10)) input ∙ counted input in
    rw is (record { upper_bound = within input; input_value = front input })

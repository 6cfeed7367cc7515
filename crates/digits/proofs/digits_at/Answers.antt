-- `digits::digits_at` meets its contract: the digits that a text starts with are counted.
use Rattle.std.proofs.Common.{◌∙◌, drop, rules, tests}
use Rattle.std.proofs.lemmas.Iterator.{YieldsList-from_slice}
use Rattle.std.proofs.lemmas.Iterator.Consumers.{count_from_yields_List}
use Rattle.std.proofs.lemmas.Iterator.Search.{YieldsList-from_take_while}
use Rattle.std.proofs.lemmas.List.Folds.{length-prefix_len}
use Rattle.std.specs.Char.{is_ascii_digit}
use Rattle.digits.specs.Digits.{digits_at}
use Rattle.digits.proofs.Digits.{counted}
use Rattle.digits.proofs.digits_at.Goals as goal

pub returns : goal.returns
unfolding digits_at
returns c =
    let text = c.from_place.result.now in
    count_from_yields_List c.take_while.result _ c.count.ensures.ran
    (YieldsList-from_take_while _ is_ascii_digit (YieldsList-from_slice text (cc)) c.take_while.ensures.closure
    c.take_while.ensures.done (λ x b q k. search (rules, tests)))
    ∙ length-prefix_len is_ascii_digit text ∙ rw c.from_place.ensures (counted (drop c.args.place c.args.line.now))

-- `part`: from the smaller of the place and the length on, as many as there are.
use Rattle.std.proofs.Common.{◌∙◌, ap, take, drop, length}
use Rattle.std.proofs.lemmas.List.{take_min, drop_min}
use Rattle.shelf.proofs.Alone.{tail}
use Rattle.browsing.specs.Browse.{part_of, lies}
use Rattle.browsing.proofs.part.Goals as goal

pub returns-clause-part : goal.returns-clause-part
unfolding part_of
returns-clause-part c =
    let shelf = c.args.shelf.now in
    let rest = tail shelf c.min-from.result in
    ap (take c.min-size.result) rest
    ∙ ap (λ n. take n (drop c.min-from.result shelf)) (rw rest at c.min-size.ensures)
    ∙ take_min c.args.length (drop c.min-from.result shelf)
    ∙ ap (take c.args.length) (ap (λ n. drop n shelf) c.min-from.ensures ∙ drop_min c.args.start shelf)

pub returns-clause-lies : goal.returns-clause-lies
unfolding lies
returns-clause-lies c = rw c.min-from.ensures

-- `census_in`: the heights of all indices stand in their entries, the rows are laid out from them, and all is cleared
-- (Codes).
use Rattle.std.proofs.Common.{◌≡◌, ◌+◌, ◌-◌, length, take, drop, sym, ◌∙◌, ap}
use Rattle.definitions.specs.Codes.{DONE}
use Rattle.counting.specs.declared.Counted.{Counted}
use Rattle.counting.specs.Census.{census, rows_of, indices}
use Rattle.counting.proofs.Codes.{range_good, heights_are, rows_are, not_fit, fits_all}
use Rattle.counting.proofs.census_in.Goals as goal
use Rattle.counting.proofs.census_in.Goals.{After-fill-additions}

pub lay_rows-laid-requires : goal.lay_rows-laid-requires
lay_rows-laid-requires c =
    let g = range_good _ _ c.requires.0 in
    heights_are _ _ _ g.0 g.1 g.2 (c.fill-additions.ensures.work_len_unchanged ∙ c.requires.1)
    c.fill-additions.ensures.work_after

-- the rows of the entries from a to b are the census
rows : (c : After-fill-additions) → rows_of (indices c.args.a (length (take (c.args.b + 1 - c.args.a)
    (drop c.args.a c.fill-additions.new.work)))) ≡ census c.args.a c.args.b
rows c =
    let g = range_good _ _ c.requires.0 in
    rows_are c.args.a c.args.b c.fill-additions.new.work g.0 g.1 g.2
    (c.fill-additions.ensures.work_len_unchanged ∙ c.requires.1)

pub returns-in_default-clause-value : goal.returns-in_default-clause-value
returns-in_default-clause-value c =
    let e = rows (goal.at.returns-in_default-clause-value c).After-fill-additions in
    c.refused.ensures ∙ sym (not_fit _ _ c.requires.0 _ _ (rw e at c.in_default.ensures)).0

pub returns-in_default-clause-rows_after : goal.returns-in_default-clause-rows_after
returns-in_default-clause-rows_after c =
    let e = rows (goal.at.returns-in_default-clause-rows_after c).After-fill-additions in
    (not_fit _ _ c.requires.0 _ _ (rw e at c.in_default.ensures)).1

pub returns-clause-value : goal.returns-clause-value
returns-clause-value c =
    let e = rows (goal.at.returns-clause-value c).After-fill-additions in
    let told = ap {B = Counted} (λ n. record { code = DONE; rows = c.in-Some.count; additions = n })
    c.fill-additions.ensures.value in
    told ∙ sym (fits_all _ _ c.requires.0 _ _ c.in-Some.count (rw e at c.in-Some.ensures)).0

pub returns-clause-rows_after : goal.returns-clause-rows_after
returns-clause-rows_after c =
    let e = rows (goal.at.returns-clause-rows_after c).After-fill-additions in
    (fits_all _ _ c.requires.0 _ _ c.in-Some.count (rw e at c.in-Some.ensures)).1

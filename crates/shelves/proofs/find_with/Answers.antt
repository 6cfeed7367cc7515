-- `find_with`: the house where one's own shelf came to its end, and else one's own.
use Rattle.std.proofs.Common.{◌≡◌, refl, ◌∙◌, ap}
use Rattle.definitions.specs.Codes.{ABSENT}
use Rattle.shelves.specs.declared.Found.{Found}
use Rattle.shelves.specs.declared.Walked.{Walked}
use Rattle.shelves.specs.declared.Walked.TheVariants.{Match, Stopped, Ended}
use Rattle.shelves.specs.Walk.{walked}
use Rattle.shelves.specs.Lookup.{OWN, HOUSE, refused, found_by}
use Rattle.shelves.proofs.find_with.Goals as goal

pub returns-in-Ended : goal.returns-in-Ended
unfolding found_by
returns-in-Ended c =
    c.by.ensures ∙ ap (λ w. found_by HOUSE w (refused ABSENT 0 0)) c.walk.ensures
    ∙ rw (← c.walk-first.ensures, c.in-Ended.is)

-- what else a walk came to decides by itself
alone : (w : Walked) → (w ≡ Ended → ⊥) → (others others' : Found) → found_by OWN w others ≡ found_by OWN w others'
unfolding found_by
alone (Match start end) u others others' = refl
alone (Stopped code start) u others others' = refl
alone Ended u others others' = absurd (u refl)

pub returns-in_default : goal.returns-in_default
returns-in_default c =
    let by_house = found_by HOUSE (walked c.args.kind c.args.n c.args.house.now) (refused ABSENT 0 0) in
    c.by-in_default.ensures
    ∙ alone c.walk-first.result c.in_default.not-Ended (refused ABSENT 0 0) by_house
    ∙ ap (λ w. found_by OWN w by_house) c.walk-first.ensures

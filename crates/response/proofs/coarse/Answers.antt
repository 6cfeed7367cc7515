-- `response::coarse` meets its contract: each test is one of a sign.
use mir.Facts.{to_z-of_z}
use Rattle.response.specs.Laws.{coarse_low, coarse_high}
use Rattle.response.proofs.coarse.Goals as goal

pub returns-then-c-ltminus9007199254740992 : goal.returns-then-c-ltminus9007199254740992
returns-then-c-ltminus9007199254740992 c =
    let fits = to_z-of_z c.ranges.c in
    rw fits (coarse_low c.args.c (rw fits at c.if-c-ltminus9007199254740992.true))

pub returns-else-c-ltminus9007199254740992 : goal.returns-else-c-ltminus9007199254740992
returns-else-c-ltminus9007199254740992 c =
    let fits = to_z-of_z c.ranges.c in
    rw fits (coarse_high c.args.c (rw fits at c.if-c-ltminus9007199254740992.false))

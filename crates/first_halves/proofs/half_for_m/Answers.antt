-- `half_for_m`: the lower half for r, with the signs of an even index (FirstHalves).
use Rattle.first_halves.proofs.FirstHalves.{lower_within, signed_is}
use Rattle.first_halves.proofs.half_for_m.Goals as goal

pub signed-requires : goal.signed-requires
signed-requires c =
    lower_within c.args.n _ c.requires.0 c.requires.1 c.requires.2 _ c.lower_half-measured.ensures.a_after

pub returns-clause-a_after : goal.returns-clause-a_after
returns-clause-a_after c =
    signed_is c.args.n _ c.requires.0 c.requires.1 c.requires.2 _ _ c.lower_half-measured.ensures.a_after
    c.signed.ensures

-- `Found::refused`: as `refused` has it.
use mathlib.Core.Path.{refl}
use Rattle.shelves.specs.Lookup.{refused}
use Rattle.shelves.proofs.Found.refused.Goals as goal

pub returns : goal.returns
unfolding refused
returns c = refl

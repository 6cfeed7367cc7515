-- `negates_in`: of the kind and the index that were read.
use mathlib.Core.Path.{◌∙◌, ap₂}
use Rattle.definitions.specs.Halves.{negates}
use Rattle.reading.proofs.negates_in.Goals as goal

pub returns : goal.returns
returns c =
    c.negates.ensures ∙ ap₂ negates c.kind_in.ensures c.index_in.ensures.0

-- `response::inside` meets its contract: each arm is one of the definition.
use mathlib.Core.Path.{sym, ◌∙◌}
use Rattle.response.specs.Response.{is_inside}
use Rattle.response.proofs.inside.Goals as goal

pub returns-then-within : goal.returns-then-within
unfolding is_inside
returns-then-within c = rw (sym c.within.ensures ∙ c.if-within.true) c.within-then-within.ensures

pub returns-else-within : goal.returns-else-within
unfolding is_inside
returns-else-within c = rw (sym c.within.ensures ∙ c.if-within.false) c.if-within.false

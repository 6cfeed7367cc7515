-- `combs::undo` meets its contract. The invariant: of whatever list the comb got down to `from`, it is taken
-- back to i.
use mathlib.Core.List.{List}
use lib.IntN.{ℤ}
use Rattle.combs.specs.Combs.{ReadTo}
use Rattle.combs.proofs.undo.Given as goal

abbrev pub invariant-loop-i : goal.invariant-loop-i
invariant-loop-i v = (l : List ℤ) → ReadTo v.d l v.initial.a v.from → ReadTo v.d l v.a v.i

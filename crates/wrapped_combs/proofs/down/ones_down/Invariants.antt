-- `wrapped_combs::down::ones_down` meets its contract. The invariant: of whatever list the comb got down to `from`, it
-- got down to t.
use mathlib.Core.List.{List}
use lib.IntN.{ℤ}
use Rattle.wrapped_combs.specs.Wrapped.{DownTo}
use Rattle.wrapped_combs.proofs.down.ones_down.Given as goal

abbrev pub invariant-loop-t : goal.invariant-loop-t
invariant-loop-t v = (l : List ℤ) → DownTo v.d l v.initial.a v.from → DownTo v.d l v.a v.t

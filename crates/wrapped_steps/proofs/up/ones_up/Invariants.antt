-- `wrapped_steps::up::ones_up` meets its contract. The invariant: of whatever list the accumulate got up to `from`, it
-- got up to i.
use mathlib.Core.List.{List}
use lib.IntN.{ℤ}
use Rattle.wrapped_steps.specs.Upward.{UpTo}
use Rattle.wrapped_steps.proofs.up.ones_up.Given as goal

abbrev pub invariant-loop-i : goal.invariant-loop-i
invariant-loop-i v = (l : List ℤ) → UpTo v.d l v.initial.a v.from → UpTo v.d l v.a v.i

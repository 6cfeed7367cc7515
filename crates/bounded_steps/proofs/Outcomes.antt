-- A step that is taken keeps the length.
use mathlib.Core.Path.{◌≡◌, ◌∙◌, ap}
use mathlib.Core.List.{List}
use Prim.Native.Nat.{ℕ}
use lib.ListN.{length}
use lib.IntN.{ℤ}
use Rattle.definitions.specs.Steps.{Sort}
use Rattle.step_laws.specs.Step.{length-step_list}
use Rattle.bounded_steps.specs.Outcome.{Taken}

pub taken_length : {w : ℕ} {s : Sort} {d b : ℕ} {l m : List ℤ} {bound : ℕ} → Taken w s d b l m bound
    → length m ≡ length l
taken_length {s = s} {d} {l = l} t = ap length t.leaves ∙ length-step_list s d l

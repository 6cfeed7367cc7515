-- What a step promises under a working limit it promises under one that is equal.
use Prim.Native.Nat.{ℕ}
use mathlib.Core.Path.{◌≡◌, ◌∙◌, ap}
use mathlib.Core.List.{List}
use lib.IntN.{ℤ}
use Rattle.definitions.specs.Steps.{Sort, step_code, step_count, step_leaves}

pub asked_as_seen : (s : Sort) (d : ℕ) (l : List ℤ) {w w' : ℤ} {code count : ℕ} {m : List ℤ} → w ≡ w'
    → (code ≡ step_code w s d l) × ((count ≡ step_count w s d l) × (m ≡ step_leaves w s d l))
    → (code ≡ step_code w' s d l) × ((count ≡ step_count w' s d l) × (m ≡ step_leaves w' s d l))
asked_as_seen s d l e told = (
  told.0 ∙ ap (λ x. step_code x s d l) e,
  (told.1.0 ∙ ap (λ x. step_count x s d l) e, told.1.1 ∙ ap (λ x. step_leaves x s d l) e),
)

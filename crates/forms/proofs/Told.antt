-- What a function answers where its answer was made by another (`refused`).
use mathlib.Core.Path.{◌≡◌, ◌∙◌}

pub told : {A : Type 0} {a b c : A} {Q : Type 0} → a ≡ b → (b ≡ c) × Q → (a ≡ c) × Q
told e p = (e ∙ p.0, p.1)

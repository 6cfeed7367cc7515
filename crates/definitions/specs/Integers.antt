-- The whole numbers' sum, product and negative: the library's, under names that stay shut, so that a proof goes by
-- their laws (crate `integers`) and not by their cases.
use Rattle.std.specs.Prelude.{ℤ, pos, ◌+ℤ◌, ◌*ℤ◌, neg_ℤ}

infixl 6 ◌⊕◌ ◌⊝◌
infixl 7 ◌⊗◌
unfoldable pub ◌⊕◌ : ℤ → ℤ → ℤ
a ⊕ b = a +ℤ b

unfoldable pub ◌⊗◌ : ℤ → ℤ → ℤ
a ⊗ b = a *ℤ b

unfoldable pub ⊖ : ℤ → ℤ
⊖ a = neg_ℤ a

abbrev pub ◌⊝◌ : ℤ → ℤ → ℤ
a ⊝ b = a ⊕ ⊖ b

abbrev pub 0ℤ : ℤ
0ℤ = pos 0

abbrev pub 1ℤ : ℤ
1ℤ = pos 1

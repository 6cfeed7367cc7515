-- What the machine's wrapping sum and difference of two numbers' bits stand for: the sum and the difference, wrapped.
use Rattle.std.proofs.Common.{◌≡◌, ◌+◌, ◌-◌, ◌%◌, ◌^◌, ℤ, FitsSigned, ap, ap₂, ◌∙◌, sym, arith, to_z, of_z}
use Rattle.std.specs.Int.{w64}
use Rattle.definitions.specs.Integers.{◌⊕◌, ◌⊝◌, ⊖}
use Rattle.wrapped_sums.specs.Wrapped.{wrap}
use Rattle.wrapped_sums.specs.Residues.{residue_⊕, residue-⊖, residue_small, bits_residue}

module _ (x y : ℤ) (f : FitsSigned w64 x) (g : FitsSigned w64 y) where
  pub sum_wraps : to_z w64 ((of_z w64 x + of_z w64 y) % 2 ^ 64) ≡ wrap (x ⊕ y)
  unfolding wrap
  sum_wraps =
      ap (to_z w64)
      (ap₂ (λ u v. (u + v) % 2 ^ 64) (bits_residue x f) (bits_residue y g) ∙ sym (residue_⊕ x y))

  pub difference_wraps : to_z w64 ((of_z w64 x + (2 ^ 64 - of_z w64 y)) % 2 ^ 64) ≡ wrap (x ⊝ y)
  unfolding wrap
  difference_wraps =
      ap (to_z w64)
      (ap₂ (λ u v. (u + (2 ^ 64 - v)) % 2 ^ 64) (bits_residue x f) (bits_residue y g)
      ∙ omega (arith, residue_⊕ x (⊖ y), residue-⊖ y, residue_small x, residue_small y))

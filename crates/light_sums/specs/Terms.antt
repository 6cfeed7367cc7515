-- Which terms of a coefficient are taken: those of the places from `from` on and below `to`. The terms before have a
-- factor 0 of b, those after it, up to i, one of f. So the sum over them is the coefficient, also where each entry
-- has been put through a map that keeps 0.
use Rattle.std.specs.Prelude.{◌≡◌, refl, List, [], ◌∷◌, ℕ, suc, ◌-◌, ◌<◌, ◌≤◌, length, ℤ, pos}
use Rattle.std.proofs.Common.{sym, ◌∙◌, ap, arith}
use Rattle.std.proofs.Math.Path.{fun_ext}
use Rattle.std.specs.Int.Signed.{shr_z}
use Rattle.definitions.specs.Integers.{◌⊕◌, ◌⊗◌, 0ℤ}
use Rattle.definitions.specs.Series.{Series, constant, ◌+ˢ◌, ◌·◌}
use Rattle.definitions.specs.Steps.{entries}
use Rattle.integers.specs.Solver.{x, y, z, w, ◌:+◌, ◌:*◌}
use Rattle.integers.specs.Whole.{⊗_comm}
use Rattle.series.specs.Laws.{at_+ˢ, constant-mul, ·_comm, ringˢ}
use Rattle.light_sums.specs.Parts.{half, rest, split}
use Rattle.light_sums.specs.Dots.{dot, dot-none, dot-whole}

pub record Terms (f b : List ℤ) (i from to : ℕ) : Type 0 where
  pub inside : i < length b
  pub order : from ≤ to
  pub few : to ≤ length f
  pub most : to ≤ suc i
  pub before : (j : ℕ) → j < from → entries b (i - j) ≡ 0ℤ
  pub after : (j : ℕ) → to ≤ j → j ≤ i → entries f j ≡ 0ℤ

-- the entries of a list, each put through a map
abbrev pub through : (ℤ → ℤ) → List ℤ → Series
through φ l k = φ (entries l k)

module _ {f b : List ℤ} {i from to : ℕ} (φ ψ : ℤ → ℤ) (t : Terms f b i from to) where
  pub starts : ψ 0ℤ ≡ 0ℤ → dot (through φ f) (through ψ b) i from ≡ 0ℤ
  starts e = dot-none (through φ f) (through ψ b) i from (λ j l. ap ψ (t.before j l) ∙ e)

  pub ends : φ 0ℤ ≡ 0ℤ → dot (through φ f) (through ψ b) i to ≡ (through φ f · through ψ b) i
  ends e = dot-whole (through φ f) (through ψ b) i to t.most (λ j a l. ap φ (t.after j a l) ∙ e)

-- ---- a product by the halves of its second factor
abbrev pub high_half : ℤ → ℤ
high_half n = shr_z n half

unfoldable pub low_half : ℤ → ℤ
low_half n = pos (rest half n)

pub low-none : low_half 0ℤ ≡ 0ℤ
unfolding low_half rest
low-none = refl

H : Series
H = constant (pos half)

at_H : (g : Series) (i : ℕ) → (g · H) i ≡ g i ⊗ pos half
unfolding H
at_H g i = ap (λ s. s i) (·_comm g (constant (pos half))) ∙ constant-mul (pos half) g i ∙ ⊗_comm (pos half) (g i)

by_halves : (b : List ℤ) → through high_half b · H +ˢ through low_half b ≡ entries b
unfolding low_half
by_halves b =
    fun_ext (λ i.
    at_+ˢ (through high_half b · H) (through low_half b) i
    ∙ ap (λ a. a ⊕ low_half (entries b i)) (at_H (through high_half b) i)
    ∙ sym (split half (omega arith) (entries b i)))

pub halves_product : (f : Series) (b : List ℤ) (i : ℕ) → (f · through high_half b) i ⊗ pos half
    ⊕ (f · through low_half b) i ≡ (f · entries b) i
halves_product f b i =
    sym (ap (λ s. s i) (ringˢ (f ∷ through high_half b ∷ through low_half b ∷ H ∷ [])
    (x :* (y :* w :+ z)) (x :* y :* w :+ x :* z) refl)
    ∙ at_+ˢ (f · through high_half b · H) (f · through low_half b) i
    ∙ ap (λ a. a ⊕ (f · through low_half b) i) (at_H (f · through high_half b) i))
    ∙ ap (λ s. (f · s) i) (by_halves b)

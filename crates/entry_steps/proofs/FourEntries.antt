-- Four entries at once: what stands in the list after four stores, and that a split has then moved up by four, or down.
use mathlib.Core.Path.{◌≡◌, refl, sym, ◌∙◌, ap}
use mathlib.Core.List.{List}
use Prim.Native.Nat.{ℕ, ◌+◌, ◌<◌, ◌≤◌}
use native.Mathlib.Nat.{not-le_of_lt}
use native.Mathlib.Omega.{arith}
use lib.ListN.{length, get_or, set, length-set}
use lib.IntN.{ℤ}
use Rattle.definitions.specs.Integers.{0ℤ}
use Rattle.definitions.specs.Series.{Series}
use Rattle.step_laws.specs.Tests.{by_order}
use Rattle.entry_steps.specs.Passes.{Split, set_four}
use Rattle.entry_steps.proofs.Split.{get_or-set_by, moved_up}

module _ (l : List ℤ) (k : ℕ) (v : Series) where
  -- what one store more leaves at x, where its own value is right and what stood there is
  next : (m : List ℤ) → length m ≡ length l → (j x : ℕ) → j < length l → (y : ℤ) → (x ≡ j → v x ≡ y)
      → ((x ≡ j → ⊥) → get_or m x 0ℤ ≡ y) → get_or (set m j (v j)) x 0ℤ ≡ y
  next m e j x b y here there = get_or-set_by m j (v j) (omega arith) x y (λ q. ap v (sym q) ∙ here q) there

  -- one of the four, or what stood there
  four_by : k + 4 ≤ length l → (x : ℕ) (y : ℤ) → (k ≤ x → x < k + 4 → v x ≡ y)
      → ((k ≤ x → x < k + 4 → ⊥) → get_or l x 0ℤ ≡ y) → get_or (set_four l k v) x 0ℤ ≡ y
  four_by b x y new old =
      let m₁ : List ℤ = set l k (v k) in
      let m₂ : List ℤ = set m₁ (k + 1) (v (k + 1)) in
      let m₃ : List ℤ = set m₂ (k + 2) (v (k + 2)) in
      next m₃ (simp length-set) (k + 3) x (omega arith) y (λ q. new (omega arith) (omega arith))
      (λ n₃.
      next m₂ (simp length-set) (k + 2) x (omega arith) y (λ q. new (omega arith) (omega arith))
      (λ n₂.
      next m₁ (simp length-set) (k + 1) x (omega arith) y (λ q. new (omega arith) (omega arith))
      (λ n₁.
      next l refl k x (omega arith) y (λ q. new (omega arith) (omega arith))
      (λ n₀. old (λ low high. omega arith)))))

  pub moved_four_up : {n i j : ℕ} {f g : Series} → Split l n i f g → k ≡ i → j ≡ k + 4 → j ≤ n
      → ((x : ℕ) → k ≤ x → x < k + 4 → v x ≡ f x) → Split (set_four l k v) n j f g
  moved_four_up s e up b are =
      let s₁ = moved_up s k (k + 1) (omega arith) e refl (v k) (are k (omega arith) (omega arith)) in
      let s₂ = moved_up s₁ (k + 1) (k + 2) (omega arith) refl (omega arith) (v (k + 1))
      (are (k + 1) (omega arith) (omega arith)) in
      let s₃ = moved_up s₂ (k + 2) (k + 3) (omega arith) refl (omega arith) (v (k + 2))
      (are (k + 2) (omega arith) (omega arith)) in
      moved_up s₃ (k + 3) _ (omega arith) refl (omega arith) (v (k + 3)) (are (k + 3) (omega arith) (omega arith))

  pub moved_four_down : {n i : ℕ} {f g : Series} → Split l n i f g → i ≡ k + 4 → i ≤ n
      → ((x : ℕ) → k ≤ x → x < k + 4 → v x ≡ g x) → Split (set_four l k v) n k f g
  moved_four_down {n} {i} {f} {g} s e b are =
      record {
        len = simp length-set s.len;
        below = λ x h m. four_by fits x (f x) (λ low. absurd (not-le_of_lt h low)) (λ _. s.below x (omega arith) m);
        above = λ x h m. four_by fits x (g x) (are x)
            (λ out. s.above x (by_order x i (λ low. absurd (out h (omega arith))) (λ high. high)) m);
      }
    where
      fits : k + 4 ≤ length l
      fits = omega arith

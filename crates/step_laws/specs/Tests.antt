-- Proofs by a test's two values, by the order of two numbers, that two tests agree, and what a chain of tests says that
-- ends in DONE.
use Rattle.std.specs.Prelude.{◌≡◌, refl, Bool, true, false, cond, ◌||◌, ℕ, ◌<◌, ◌≤◌, eqb, ltb, leb}
use Rattle.std.proofs.Common.{sym, ◌∙◌, true≢false, arith, ltb-true, ltb-false, le-leb, eq-eqb}
use Rattle.std.proofs.lemmas.Bool.{lt-leb}

-- by the two values of a test, each with its equation
pub by_test : {P : Type 0} (b : Bool) → (b ≡ true → P) → (b ≡ false → P) → P
by_test true f g = f refl
by_test false f g = g refl

pub by_order : {P : Type 0} (a b : ℕ) → (a < b → P) → (b ≤ a → P) → P
by_order a b f g = by_test (ltb a b) (λ e. f (ltb-true a b e)) (λ e. g (ltb-false a b e))

-- a test that is not false is true, and the other way round
pub not_false_is : (b : Bool) → (b ≡ false → ⊥) → b ≡ true
not_false_is b h = by_test b (λ e. e) (λ e. absurd (h e))

pub not_true_is : (b : Bool) → (b ≡ true → ⊥) → b ≡ false
not_true_is b h = by_test b (λ e. absurd (h e)) (λ e. e)

-- two tests of order agree where each order gives the other
pub same_test : (a b c d : ℕ) → (a ≤ b → c ≤ d) → (c ≤ d → a ≤ b) → leb a b ≡ leb c d
same_test a b c d f g =
    by_order b a (λ l. lt-leb a b l ∙ sym (lt-leb c d (by_order d c (λ k. k) (λ k. absurd (clash l (g k))))))
    (λ l. le-leb a b l ∙ sym (le-leb c d (f l)))
  where
    clash : b < a → a ≤ b → ⊥
    clash l m = omega arith

-- no test of a chain that ends in 0 gave its code, which is not 0
pub past : (b : Bool) (c : ℕ) {x : ℕ} → eqb c 0 ≡ false → cond b c x ≡ 0 → (b ≡ false) × (x ≡ 0)
past true c given e = absurd (true≢false (sym (eq-eqb c 0 e) ∙ given))
past false c given e = (refl, e)

-- neither test held
pub neither : (a b : Bool) → (a || b) ≡ false → (a ≡ false) × (b ≡ false)
neither true b e = absurd (true≢false e)
neither false b e = (refl, e)

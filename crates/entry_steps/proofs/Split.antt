-- A pass that has got to some place: a store of f's value there moves the split up, one of g's just below it moves it
-- down. One whose split stands at an end has only entries of one kind.
use mathlib.Core.Path.{◌≡◌, sym, ◌∙◌, ap}
use mathlib.Core.List.{List}
use Prim.Native.Nat.{ℕ, ◌+◌, ◌<◌, ◌≤◌}
use native.Mathlib.Decide.{ℕ_discrete}
use native.Mathlib.Omega.{arith}
use lib.ListN.{length, get_or, set, length-set}
use lib.Seq.{get_or-set_same, get_or-set_other}
use lib.IntN.{ℤ}
use Rattle.definitions.specs.Integers.{0ℤ}
use Rattle.definitions.specs.Series.{Series, firsts}
use Rattle.step_laws.specs.Firsts.{is_firsts}
use Rattle.entry_steps.specs.Passes.{Split, All}

-- an entry after a store at j: what was stored, or what stood there
pub get_or-set_by : (l : List ℤ) (j : ℕ) (v : ℤ) → j < length l → (k : ℕ) (x : ℤ) → (k ≡ j → v ≡ x)
    → ((k ≡ j → ⊥) → get_or l k 0ℤ ≡ x) → get_or (set l j v) k 0ℤ ≡ x
get_or-set_by l j v b k x same other =
    elim (ℕ_discrete k j) [
      | yes e ↦ ap (λ m. get_or (set l j v) m 0ℤ) e ∙ get_or-set_same l j v 0ℤ b ∙ same e
      | no ne ↦ get_or-set_other l j k v 0ℤ ne ∙ other ne
    ]

-- the split stands at i before the store and at j after it; the store is at k
module _ {l : List ℤ} {n i : ℕ} {f g : Series} (s : Split l n i f g) (k j : ℕ) (b : k < n) where
  pub moved_up : k ≡ i → j ≡ k + 1 → (v : ℤ) → v ≡ f k → Split (set l k v) n j f g
  moved_up here next v e =
      record {
        len = length-set l k v ∙ s.len;
        below = λ x h m. get_or-set_by l k v (omega arith) x (f x) (λ q. e ∙ ap f (sym q))
            (λ ne. s.below x (omega arith) m);
        above = λ x h m. get_or-set_by l k v (omega arith) x (g x) (λ q. absurd (never q h))
            (λ ne. s.above x (omega arith) m);
      }
    where
      never : {x : ℕ} → x ≡ k → j ≤ x → ⊥
      never q h = omega arith

  pub moved_down : i ≡ k + 1 → j ≡ k → (v : ℤ) → v ≡ g k → Split (set l k v) n j f g
  moved_down next here v e =
      record {
        len = length-set l k v ∙ s.len;
        below = λ x h m. get_or-set_by l k v (omega arith) x (f x) (λ q. absurd (never q h))
            (λ ne. s.below x (omega arith) m);
        above = λ x h m. get_or-set_by l k v (omega arith) x (g x) (λ q. e ∙ ap g (sym q))
            (λ ne. s.above x (omega arith) m);
      }
    where
      never : {x : ℕ} → x ≡ k → x < j → ⊥
      never q h = omega arith

pub all_firsts : {l : List ℤ} {n : ℕ} {f : Series} → All l n f → l ≡ firsts n f
all_firsts {l} {n} {f} s = is_firsts n f l s.len (λ k b. s.above k (omega arith) b)

-- a pass that has got to the end
pub all_below : {l : List ℤ} {n i : ℕ} {f g : Series} → Split l n i f g → n ≤ i → All l n f
all_below s h =
    record { len = s.len; below = λ k b m. s.below k (omega arith) m; above = λ k b m. s.below k (omega arith) m }

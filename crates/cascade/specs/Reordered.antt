-- Two lists of indices that differ in their order alone.
use Rattle.std.specs.Prelude.{ℕ, List, ◌∷◌}

-- the same list, the first two exchanged, a reordering behind the same index, one reordering after another
pub data Reordered : List ℕ → List ℕ → Type 0 where
  same : (ns : List ℕ) → Reordered ns ns
  swap : (a b : ℕ) (ns : List ℕ) → Reordered (a ∷ b ∷ ns) (b ∷ a ∷ ns)
  behind : (a : ℕ) {ns ms : List ℕ} → Reordered ns ms → Reordered (a ∷ ns) (a ∷ ms)
  after : {ns ms ks : List ℕ} → Reordered ns ms → Reordered ms ks → Reordered ns ks

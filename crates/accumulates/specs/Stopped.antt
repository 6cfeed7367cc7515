-- Where a tested accumulate stopped short: which places are taken, and how each can be put back.
use Rattle.std.specs.Prelude.{ℕ, ◌+◌, ◌-◌, ◌%◌, ◌<◌, ◌≤◌, Bool, true, cond, ◌&&◌, ◌||◌, ◌≡◌, List, length, get_or, ℤ, ltb, leb}
use Rattle.std.specs.Int.{w64}
use Rattle.std.proofs.Common.{SFits}
use Rattle.definitions.specs.Integers.{◌⊕◌, 0ℤ}
use Rattle.definitions.specs.Steps.{comb, entries}
use Rattle.entry_steps.specs.Passes.{new_entry}

-- whether the place x is taken where the chains below `full` are and those from there and below `to` up to `stop`
abbrev pub is_taken : ℕ → ℕ → ℕ → ℕ → ℕ → Bool
is_taken d full to stop x = ltb (x % d) full || ltb (x % d) to && ltb x stop

-- m is what is left of l where a tested pass stopped: a place taken has got the entry d before it added
pub record Stopped (d full to stop : ℕ) (l m : List ℤ) : Type 0 where
  pub len : length m ≡ length l
  pub each : (x : ℕ) → d ≤ x → x < length l
      → get_or m x 0ℤ ≡ cond (is_taken d full to stop x) (entries l x ⊕ get_or m (x - d) 0ℤ) (entries l x)
  pub first : (x : ℕ) → x < d → x < length l → get_or m x 0ℤ ≡ entries l x
  pub fit : (x : ℕ) → d ≤ x → x < length l → is_taken d full to stop x ≡ true → SFits w64 (entries l x)

-- some list was
pub record Undoable (d full to stop : ℕ) (m : List ℤ) : Type 0 where
  pub before : List ℤ
  pub stopped : Stopped d full to stop before m

-- how many neighbours are then taken from k on, the first place of a row
unfoldable pub taken_in_row : ℕ → ℕ → ℕ → ℕ → ℕ
taken_in_row full to stop k = cond (leb (k + to) stop) to (cond (leb (k + full) stop) (stop - k) full)

-- the places of m from `from` on and below `to` have got the entry d before them taken away, which left m'
pub record PutBack (d from to : ℕ) (m m' : List ℤ) : Type 0 where
  pub len : length m' ≡ length m
  pub back : (x : ℕ) → from ≤ x → x < to → get_or m' x 0ℤ ≡ new_entry comb d m x
  pub others : (x : ℕ) → (from ≤ x → x < to → ⊥) → get_or m' x 0ℤ ≡ get_or m x 0ℤ

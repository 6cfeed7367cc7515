-- What a step does at one place, what a tested step comes to, and a pass that has got to some place.
use Rattle.std.specs.Prelude.{ℕ, ◌+◌, ◌-◌, ◌<◌, ◌≤◌, Bool, cond, not, ◌≡◌, List, length, get_or, set, ℤ}
use Rattle.std.specs.Int.{w64}
use Rattle.std.proofs.Common.{SFits}
use Rattle.definitions.specs.Integers.{◌⊕◌, ◌⊝◌, 0ℤ}
use Rattle.definitions.specs.Series.{Series}
use Rattle.definitions.specs.Steps.{Sort, comb, accumulate, entries, step_over, step_list}
use Rattle.step_laws.specs.Bound.{Bounded}

-- what a step makes of an entry x and the one y that stands d before it, and of the entry at i of a list
abbrev pub new_value : Sort → ℤ → ℤ → ℤ
new_value comb x y = x ⊝ y
new_value accumulate x y = x ⊕ y

abbrev pub new_entry : Sort → ℕ → List ℤ → ℕ → ℤ
new_entry s d l i = new_value s (get_or l i 0ℤ) (get_or l (i - d) 0ℤ)

-- 2^62 - 1: the sum and the difference of two numbers that are no larger are machine numbers
abbrev pub addable : ℕ
addable = 4611686018427387903

-- no entry is larger, nor is a value within w
pub record Narrow (w : ℕ) (l : List ℤ) : Type 0 where
  pub limit : w ≤ addable
  pub small : Bounded addable (entries l)

-- four values put into the places from k on, and those that v has there
abbrev pub put_four : List ℤ → ℕ → ℤ → ℤ → ℤ → ℤ → List ℤ
put_four l k x₀ x₁ x₂ x₃ = set (set (set (set l k x₀) (k + 1) x₁) (k + 2) x₂) (k + 3) x₃

abbrev pub set_four : List ℤ → ℕ → Series → List ℤ
set_four l k v = put_four l k (v k) (v (k + 1)) (v (k + 2)) (v (k + 3))

-- all the values of f from i on and below n fit a machine number
abbrev pub Fit : ℕ → ℕ → Series → Type 0
Fit i n f = (k : ℕ) → i ≤ k → k < n → SFits w64 (f k)

-- a step on l left m: all of it where `done`, and nothing where a value would pass w
pub record SteppedOrUndone (w : ℕ) (s : Sort) (d : ℕ) (l m : List ℤ) (done : Bool) : Type 0 where
  pub over : step_over w s d l ≡ not done
  pub leaves : m ≡ cond done (step_list s d l) l

-- A pass whose new entries need no others. `Split l n i f g`: the list l has n entries, those below i are f's and the
-- others g's.
pub record Split (l : List ℤ) (n i : ℕ) (f g : Series) : Type 0 where
  pub len : length l ≡ n
  pub below : (k : ℕ) → k < i → k < n → get_or l k 0ℤ ≡ f k
  pub above : (k : ℕ) → i ≤ k → k < n → get_or l k 0ℤ ≡ g k

-- the entries of l are f's
abbrev pub All : List ℤ → ℕ → Series → Type 0
All l n f = Split l n 0 f f

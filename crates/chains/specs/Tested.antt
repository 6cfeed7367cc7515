-- How far the chains of an accumulate are taken and tested, and what each way to test asks of them.
use Rattle.std.specs.Prelude.{ℕ, ◌+◌, ◌%◌, ◌<◌, ◌≤◌, true, false, ◌≡◌, List, length, get_or, ℤ}
use Rattle.std.specs.Int.{w64}
use Rattle.std.proofs.Common.{SFits}
use Rattle.definitions.specs.Integers.{0ℤ}
use Rattle.definitions.specs.Steps.{accumulate, accumulated, in_range, entries}
use Rattle.step_laws.specs.WorkingLimit.{Workable}
use Rattle.entry_steps.specs.Passes.{Narrow}
use Rattle.entry_steps.specs.Asked.{Way, known, narrow, wide, Asked}
use Rattle.chains.specs.Chains.{sum_at, Each, Taken}

-- at the place j of a row that begins at k: what is asked before its chain's sum is added
abbrev pub AskedInRow : Way → ℕ → List ℤ → List ℤ → ℕ → ℕ → Type 0
AskedInRow t w s a k j = Asked t w accumulate (get_or a (k + j) 0ℤ) (get_or s j 0ℤ)

-- and what is known after it: the sum is within w, and the old entry, which was read, fits, so that it can be put back
abbrev pub FoundInRow : ℕ → List ℤ → List ℤ → ℕ → ℕ → Type 0
FoundInRow w s a k j = (in_range w (sum_at s a k j) ≡ true) × SFits w64 (get_or a (k + j) 0ℤ)

-- the same of the place x of a list, from the second row on
abbrev pub Inside : ℕ → ℕ → List ℤ → ℕ → Type 0
Inside w d l x = d ≤ x → in_range w (accumulated d (entries l) x) ≡ true

abbrev pub Found : ℕ → ℕ → List ℤ → ℕ → Type 0
Found w d l x = d ≤ x → (in_range w (accumulated d (entries l) x) ≡ true) × SFits w64 (entries l x)

abbrev pub AskedOfGroup : Way → ℕ → ℕ → ℕ → ℕ → List ℤ → Type 0
AskedOfGroup known w d from to l = Each d from to (length l) l (Inside w d l)
AskedOfGroup narrow w d from to l = Narrow w l
AskedOfGroup wide w d from to l = Unit {0}

-- chains taken and tested
pub record Tested (w d from to end : ℕ) (l m : List ℤ) : Type 0 where
  pub taken : Taken d from to end l m
  pub found : Each d from to end l (Found w d l)

-- what is asked of a group, the chains from `from` on and below `to`
pub record GroupAsked (t : Way) (w d from to : ℕ) (l : List ℤ) : Type 0 where
  pub some : from < to
  pub room : to ≤ d
  pub long : to + d ≤ length l
  pub limit : Workable w
  pub asked : AskedOfGroup t w d from to l

-- and what comes of it: it is taken up to r, where the value would pass w; or r is the end
pub record GroupTaken (w d from to : ℕ) (l m : List ℤ) (r : ℕ) : Type 0 where
  pub tested : Tested w d from to r l m
  pub first : d ≤ r
  pub most : r ≤ length l
  pub over : r < length l → (from ≤ r % d) × (in_range w (accumulated d (entries l) r) ≡ false)

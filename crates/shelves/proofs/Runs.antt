-- The walk is the reader run to the first match, and so is the lookup, on each shelf.
use Prim.Native.Nat.{ℕ, zero, suc}
use mathlib.Core.Path.{◌≡◌, refl}
use mathlib.Core.Bool.{true}
use mathlib.Core.List.{List}
use lib.ListN.{length}
use Rattle.definitions.specs.Codes.{ABSENT}
use Rattle.definitions.specs.Requests.{known_kind, good_index}
use Rattle.browsing.specs.declared.Shown.{Shown}
use Rattle.browsing.specs.declared.Shown.TheVariants.{Record, Refused, End}
use Rattle.browsing.specs.Browse.{shown_at, place_after, turn_at}
use Rattle.browsing.specs.Cut.{gives}
use Rattle.shelves.specs.declared.Walked.{Walked}
use Rattle.shelves.specs.Walk.{onward, walk_from, walked}
use Rattle.shelves.specs.Lookup.{OWN, HOUSE, refused, found_by, found}
use Rattle.shelves.specs.First.{run_to}

module _ (kind n : ℕ) where
  -- what comes after is asked for at the place after
  same : (more : ℕ → Walked) (others : Walked) (s : Shown) → more (place_after s) ≡ others
      → onward kind n more s ≡ onward kind n (λ _. others) s
  unfolding onward place_after
  same more others (Record start end k m d) e = rw e
  same more others (Refused code start) e = refl
  same more others (End start) e = refl

  walk_run : (most : ℕ) (shelf : List ℕ) (at : ℕ) → walk_from most kind n shelf at
      ≡ run_to kind n (gives most shelf at)
  unfolding walk_from run_to gives turn_at
  walk_run zero shelf at = refl
  walk_run (suc most) shelf at =
      same (walk_from most kind n shelf) (run_to kind n (gives most shelf (place_after (shown_at shelf at))))
      (shown_at shelf at) (walk_run most shelf (place_after (shown_at shelf at)))

  pub walked_run : (shelf : List ℕ) → walked kind n shelf ≡ run_to kind n (gives (length shelf) shelf 0)
  unfolding walked
  walked_run shelf = walk_run (length shelf) shelf 0

  pub lookup_run : (own house : List ℕ) → known_kind kind ≡ true → good_index n ≡ true → found kind n own house
      ≡ found_by OWN (run_to kind n (gives (length own) own 0))
      (found_by HOUSE (run_to kind n (gives (length house) house 0)) (refused ABSENT 0 0))
  unfolding found
  lookup_run own house k g = rw (k, g, walked_run own, walked_run house)

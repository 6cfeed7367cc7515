-- `rescue::rescue_read` is safe and ends. In these rooms SHORT can't be met (`roomy_done`), so what it hands over is
-- all that is kept, and then all that is listed (`delivered`).
use Prim.Native.Nat.{ℕ, ◌*◌, ◌≤◌}
use mathlib.Core.Path.{◌≡◌, refl, ap, ◌∙◌}
use mathlib.Core.List.{List, ◌++◌}
use native.Mathlib.Omega.{arith}
use lib.ListN.{length, take, length-append}
use lib.Seq.{take_at, length-take-le}
use Rattle.definitions.specs.Codes.{DONE}
use Rattle.widths.proofs.Digits.{bytes_each}
use Rattle.rescuing.specs.declared.Rescued.{Rescued}
use Rattle.rescuing.specs.Rescue.{kept, listed, rescue_code, rescue_tells, rescue_answer, rescue_leaves, rescue_lists}
use Rattle.rescuing.proofs.NeverShort.{roomy_done, listed_pairs}
use Rattle.rescue.proofs.rescue_read.Goals as goal
use Rattle.rescue.proofs.rescue_read.Goals.{After-rescue-rescued}

-- all that is kept and all that is listed, at the start of their buffers
record Delivered (shelf out list : List ℕ) (r : Rescued) : Type 0 where
  keeps : take r.kept out ≡ kept shelf
  kept_in : r.kept ≤ length out
  lists : take (2 * r.stretches) list ≡ listed shelf
  listed_in : 2 * r.stretches ≤ length list

at_start_lem : (front rest l : List ℕ) (n : ℕ) → n ≡ length front → l ≡ front ++ rest → (take n l ≡ front) × (n ≤ length l)
at_start_lem front rest l n en el =
    rw (en, el) (take_at front rest (length front) refl, omega (arith, length-append front rest))

module _ (shelf out list out' list' : List ℕ) (entries : ℕ) (r : Rescued)
    (done : rescue_code shelf (length out) (length list) entries ≡ DONE) where
  delivered : r ≡ rescue_answer shelf (length out) (length list) entries
      → out' ≡ rescue_leaves shelf out (length list) entries → list' ≡ rescue_lists shelf (length out) list entries
      → Delivered shelf out' list' r
  unfolding rescue_answer rescue_tells rescue_leaves rescue_lists
  delivered er eo el =
      let answer = rw done at er in
      let (keeps, kept_in) = at_start_lem (kept shelf) _ out' r.kept (ap (λ (x : Rescued). x.kept) answer)
      (rw done at eo) in
      let (lists, listed_in) = at_start_lem (listed shelf) _ list' (2 * r.stretches)
      (ap (λ (x : Rescued). 2 * x.stretches) answer ∙ listed_pairs shelf) (rw done at el) in
      record { keeps = keeps; kept_in = kept_in; lists = lists; listed_in = listed_in }

all : (c : After-rescue-rescued) →
    Delivered c.args.shelf.now
    c.rescue-rescued.new.out c.rescue-rescued.new.list c.rescue-rescued.result
all c =
    let known = c in
    let shelf = known.args.shelf.now in
    let out = c.room-out in
    let list = c.room-list in
    let coeffs = c.room-coeffs in
    let done = roomy_done shelf (bytes_each shelf (λ i. (known.type_inv.shelf i).fits))
    (length out.result) (length list.result) (length coeffs.result)
    (omega (arith, known.requires, out.ensures)) (omega (arith, coeffs.ensures))
    (omega (arith, known.requires, list.ensures)) in
    let e = c.rescue-rescued.ensures in
    delivered shelf _ _ _ _ _ _ done e.answer e.leaves e.lists

pub slice_bounds-out-end : goal.slice_bounds-out-end
slice_bounds-out-end c = omega (arith, (all (goal.at.slice_bounds-out-end c).After-rescue-rescued).kept_in)

pub slice_bounds-write_kept-end : goal.slice_bounds-write_kept-end
slice_bounds-write_kept-end c =
    let r = (goal.at.slice_bounds-write_kept-end c).After-rescue-rescued in
    omega (arith, length-take-le r.rescue-rescued.result.kept r.rescue-rescued.new.out (all r).kept_in)

pub write_kept-requires : goal.write_kept-requires
write_kept-requires c = (all (goal.at.write_kept-requires c).After-rescue-rescued).keeps

pub say_stretches-requires : goal.say_stretches-requires
say_stretches-requires c = let d = all (goal.at.say_stretches-requires c).After-rescue-rescued in record {
  count_in_bounds = d.listed_in;
  list_value = d.lists;
}

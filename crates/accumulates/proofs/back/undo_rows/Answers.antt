-- `accumulates::back::undo_rows` meets its contract. The invariant: from the row after k on the entries are
-- those of whatever list the pass was stopped on, and below it they are as they were found.
use Prim.Native.Nat.{ℕ, ◌+◌, ◌-◌, ◌/◌, ◌*◌, ◌%◌, ◌≤◌, ◌<◌, min}
use mathlib.Core.Path.{◌≡◌, refl, sym, ◌∙◌, ap, ap₂, subst}
use mathlib.Core.Bool.{true, false}
use native.Mathlib.Nat.{mod-lt, mod-eq_of_lt, mod-eq-sub-mod, mul-mod_left, div-add-mod'}
use native.Mathlib.Omega.{arith}
use lib.ListN.{length}
use Rattle.definitions.specs.Steps.{entries}
use Rattle.entry_steps.specs.Passes.{Split}
use Rattle.accumulates.specs.Stopped.{is_taken, taken_in_row}
use Rattle.accumulates.proofs.PutBack.{none_back, taken_back, range_back, all_back, row-most, row-taken}
use Rattle.accumulates.proofs.back.undo_rows.Goals as goal
use Rattle.accumulates.proofs.back.undo_rows.Goals.{After-min-end, After-taken_in_row, At-loop-k, Start}

-- the last row begins at a multiple of d
last_row : (n d : ℕ) → (n - n % d) % d ≡ 0
last_row n d =
    let e : n - n % d ≡ n / d * d = omega (arith, div-add-mod' n d) in
    ap (λ x. x % d) e ∙ mul-mod_left (n / d) d

pub loop-k-init : goal.loop-k-init
loop-k-init c =
    let a = c.args.a.now in (
      omega arith,
      last_row (length a) c.args.d,
      refl,
      λ l s. none_back a (entries l) (omega (arith, mod-lt (length a) c.requires.0)),
    )

-- at most d of a row are taken
most : (c : After-taken_in_row) → c.taken_in_row.result ≤ c.args.d
most c =
    let g = c in
    let p = c in
    rw c.taken_in_row.ensures
    (row-most p.args.d p.args.full p.args.to p.args.stop g.loop-k.k p.requires.0 p.requires.1
    g.loop-k.invariant.1 p.requires.2)

pub overflow_add-k : goal.overflow_add-k
overflow_add-k c = omega (arith, most (goal.at.overflow_add-k c).After-taken_in_row, c.loop-k.invariant.0)

-- the row from k on, and how much of it was taken
module _ (c : After-min-end) where
  abbrev at : At-loop-k
  at = c.before.before.before

  abbrev p : Start
  p = c.before.before.before.before

  abbrev k : ℕ
  k = at.loop-k.k

  abbrev end : ℕ
  end = c.min-end.result

  abbrev count : ℕ
  count = taken_in_row p.args.full p.args.to p.args.stop k

  end_is : end ≡ min (k + count) (length p.args.a.now)
  end_is =
      c.min-end.ensures
      ∙ ap₂ (λ x y. min (k + x) y) c.taken_in_row.ensures at.loop-k.invariant.2

  in_row : count ≤ p.args.d
  in_row = subst (λ x. x ≤ p.args.d) c.taken_in_row.ensures (most c.before)

  here : (y : ℕ) → k ≤ y → y < k + p.args.d
      → (y < k + count → is_taken p.args.d p.args.full p.args.to p.args.stop y ≡ true)
      × (k + count ≤ y → is_taken p.args.d p.args.full p.args.to p.args.stop y ≡ false)
  here =
      row-taken p.args.d p.args.full p.args.to p.args.stop k p.requires.0 p.requires.1 at.loop-k.invariant.1

  taken : (y : ℕ) → k ≤ y → y < end
      → is_taken p.args.d p.args.full p.args.to p.args.stop y ≡ true
  taken y low high = (here y low (omega (arith, end_is, in_row))).0 (omega (arith, end_is))

  kept : (y : ℕ) → k ≤ y → end ≤ y → y < k + p.args.d → y < length p.args.a.now
      → is_taken p.args.d p.args.full p.args.to p.args.stop y ≡ false
  kept y low high top b = (here y low top).1 (omega (arith, end_is))

pub put_back-requires-clause-by_index : goal.put_back-requires-clause-by_index
put_back-requires-clause-by_index c = λ y low high.
    let m = (goal.at.put_back-requires-clause-by_index c).After-min-end in
    let s = c.requires.3.stopped in
    rw (taken_back s (k m + c.args.d) y (c.loop-k.invariant.3 c.requires.3.before s) (omega (arith, end_is m, in_row m))
    (omega arith) (omega (arith, end_is m)) (taken m y low high))
    (s.fit y (omega arith) (omega (arith, end_is m, s.len)) (taken m y low high))

pub loop-k-preserved : goal.loop-k-preserved
loop-k-preserved c =
    let m = (goal.at.loop-k-preserved c).After-min-end in
    let g = at m in
    let q = p m in
    let e : k m ≡ k m - q.args.d + q.args.d = omega arith in (
      omega (arith, g.loop-k.invariant.0),
      sym (mod-eq-sub-mod (omega arith)) ∙ g.loop-k.invariant.1,
      omega (arith, g.loop-k.invariant.2),
      λ l s.
          subst
          (λ x. Split c.put_back.new.a (length q.args.a.now) x (entries q.args.a.now)
          (entries l))
          e
          (range_back s (k m + q.args.d) (g.loop-k.invariant.3 l s) c.put_back.ensures (omega arith)
          (omega (arith, end_is m, g.loop-k.invariant.0)) (omega (arith, end_is m, in_row m))
          (λ y low high _. taken m y low high) (kept m)),
    )

pub returns : goal.returns
returns c = λ l s.
    let g = c in
    let i = g.loop-k.invariant in
    let first : g.loop-k.k ≡ 0 = sym (mod-eq_of_lt (omega arith)) ∙ i.1 in
    all_back s (i.3 l s) (omega arith)

-- The turns over the rows: the numbers of the rows below the height that is due next are counted, or written (`Turn`,
-- `Wrote`). A turn goes on by the row that is found, and where none is due all are there.
use Prim.Native.Nat.{ℕ, zero, suc, ◌+◌, ◌*◌, ◌-◌, ◌≤◌, ◌<◌}
use mathlib.Core.Path.{◌≡◌, refl, sym, ◌∙◌, ap, ap₂, subst}
use mathlib.Core.List.{List, [], ◌∷◌, ◌++◌}
use native.Mathlib.Omega.{arith}
use native.Mathlib.Nat as NatL
use native.Mathlib.Numerals.{add-one}
use lib.ListN.{length, take, drop, length-append, length-take, length-drop}
use lib.Seq.{take_at, drop-append-add, drop-drop}
use lib.IntN.{ℤ}
use Rattle.definitions.specs.Steps.{largest}
use Rattle.never_over.proofs.Heights.{height_fits}
use Rattle.std.specs.Prelude.{Some, None}
use Rattle.counting.specs.declared.passes.Row.{Row}
use Rattle.counting.specs.Census.{indices, tallest, with_height, row_of, rows_below, rows_of}
use Rattle.counting.specs.Passes.{Heights, row_list, next_row}
use Rattle.counting.proofs.Found.{Least, Found, next-found, rows_some, rows_none}

-- ---- how many numbers there are
rows_short : (ns : List ℕ) (h : ℕ) → length (rows_below h ns) ≤ 3 * h
unfolding rows_below row_of
rows_short ns zero = omega arith
rows_short ns (suc h) =
    omega (
      arith,
      length-append (rows_below h ns) (row_of h (with_height h ns)),
      rows_short ns h,
      three h (with_height h ns),
    )
  where
    three : (h : ℕ) (l : List ℕ) → length (row_of h l) ≤ 3
    three h [] = omega arith
    three h (n ∷ l) = omega arith

rows_more : (ns : List ℕ) (h k : ℕ) → length (rows_below h ns) ≤ length (rows_below (h + k) ns)
unfolding rows_below
rows_more ns h zero = NatL.le_of_eq (ap (λ x. length (rows_below x ns)) (sym (NatL.add-zero h)))
rows_more ns h (suc k) =
    NatL.le_trans (rows_more ns h k)
    (NatL.le_trans (one (h + k)) (NatL.le_of_eq (ap (λ x. length (rows_below x ns)) (sym (NatL.add-suc h k)))))
  where
    one : (x : ℕ) → length (rows_below x ns) ≤ length (rows_below (suc x) ns)
    one x = omega (arith, length-append (rows_below x ns) (row_of x (with_height x ns)))

tallest_fits : (a k : ℕ) → 0 < a → a + k ≤ 65536 → tallest (indices a k) ≤ largest
unfolding tallest indices
tallest_fits a zero low high = omega arith
tallest_fits a (suc k) low high =
    NatL.max-le (height_fits a low (omega arith) 1) (tallest_fits (suc a) k (omega arith) (omega arith))

-- ---- the turns
pub record Turn (ns : List ℕ) (due at : ℕ) : Type 0 where
  pub within : due ≤ suc (tallest ns)
  pub long : length (rows_below due ns) ≡ at

pub turn-start : (ns : List ℕ) → Turn ns 0 0
unfolding rows_below
turn-start ns = record { within = omega arith; long = refl }

module _ (ns : List ℕ) (due at : ℕ) (t : Turn ns due at) where
  module _ (row : Row) (is : Some row ≡ next_row due ns) where
    least : Least due ns row
    least = subst (Found due ns) (sym is) (next-found due ns)

    rows_again : rows_below (row.height + 1) ns ≡ rows_below due ns ++ row_list row
    rows_again = ap (λ h. rows_below h ns) (add-one row.height) ∙ rows_some due ns row least

    pub turn_again : Turn ns (row.height + 1) (at + 3)
    turn_again = record {
      within = omega (arith, least.most);
      long = ap length rows_again
          ∙ (length-append (rows_below due ns) (row_list row) ∙ ap (λ k. k + 3) t.long);
    }

    -- it goes on from a larger height, up to the tallest
    pub turn_less : suc (tallest ns) - (row.height + 1) < suc (tallest ns) - due
    turn_less = omega (arith, least.from, least.most)

    -- the row at hand is one of all, and so few are there
    pub turn-room : at + 3 ≤ length (rows_of ns)
    unfolding rows_of turn_again
    turn-room =
        let rest = suc (tallest ns) - (row.height + 1) in
        let end : row.height + 1 + rest ≡ suc (tallest ns) = omega (arith, least.most) in
        NatL.le_trans (NatL.le_of_eq (sym turn_again.long))
        (NatL.le_trans (rows_more ns (row.height + 1) rest) (NatL.le_of_eq (ap (λ h. length (rows_below h ns)) end)))

  turn_end : None ≡ next_row due ns → rows_of ns ≡ rows_below due ns
  turn_end is = rows_none due ns (subst (Found due ns) (sym is) (next-found due ns)) t.within

  pub turn-all : None ≡ next_row due ns → at ≡ length (rows_of ns)
  turn-all is = sym t.long ∙ ap length (sym (turn_end is))

  turn-short : at ≤ 3 * suc (tallest ns)
  turn-short = omega (arith, t.long, rows_short ns due, t.within)

-- what a row at hand has fits a register
module _ (a : ℕ) (l : List ℤ) (H : Heights a l) (due at : ℕ) (t : Turn (indices a (length l)) due at) where
  tall : tallest (indices a (length l)) ≤ largest
  tall = tallest_fits a (length l) H.some (omega (arith, H.most))

  pub turn_tall : (row : Row) → Some row ≡ next_row due (indices a (length l)) → row.height ≤ largest
  turn_tall row is = omega (arith, tall, (least (indices a (length l)) due at t row is).most)

  pub turn-few : at ≤ 3 * suc largest
  turn-few = omega (arith, tall, turn-short (indices a (length l)) due at t)

-- ---- the rows written, in front of what stood behind
pub record Wrote (ns : List ℕ) (due at : ℕ) (rows₀ rows : List ℕ) : Type 0 where
  pub turn : Turn ns due at
  pub same : length rows ≡ length rows₀
  pub left : rows ≡ rows_below due ns ++ drop at rows₀

pub wrote_start : (ns rows : List ℕ) → Wrote ns 0 0 rows rows
unfolding rows_below turn-start
wrote_start ns rows = record { turn = turn-start ns; same = refl; left = refl }

module _ (ns : List ℕ) (due at : ℕ) (rows₀ rows : List ℕ) (w : Wrote ns due at rows₀ rows) where
  pub wrote_again : (row : Row) → Some row ≡ next_row due ns → at + 3 ≤ length rows → (rows' : List ℕ)
      → rows' ≡ take at rows ++ row_list row ++ drop (at + 3) rows → Wrote ns (row.height + 1) (at + 3) rows₀ rows'
  unfolding turn_again
  wrote_again row is room rows' e =
      let below = rows_below due ns in
      let long : length (take at rows ++ row_list row ++ drop (at + 3) rows) ≡ length rows =
      simp (length-append, length-take, length-drop) (omega arith) in
      let front : take at rows ≡ below = ap (take at) w.left ∙ take_at below (drop at rows₀) at w.turn.long in
      let behind : drop (at + 3) rows ≡ drop (at + 3) rows₀ =
      ap₂ (λ k r. drop (k + 3) r) (sym w.turn.long) w.left
      ∙ (drop-append-add below (drop at rows₀) 3 ∙ drop-drop 3 at rows₀) in
      record {
        turn = turn_again ns due at w.turn row is;
        same = ap length e ∙ (long ∙ w.same);
        left = e ∙ (ap₂ (λ x y. x ++ row_list row ++ y) front behind
            ∙ ap (λ x. x ++ drop (at + 3) rows₀) (sym (rows_again ns due at w.turn row is)));
      }

  pub wrote_all : None ≡ next_row due ns → rows ≡ rows_of ns ++ drop (length (rows_of ns)) rows₀
  wrote_all is =
      w.left ∙ ap₂ (λ x k. x ++ drop k rows₀) (sym (turn_end ns due at w.turn is)) (turn-all ns due at w.turn is)

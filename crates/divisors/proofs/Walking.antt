-- The walk goes right: the primes of r make a row; the least divisor above the one taken last stands at the next place;
-- and so a turn is the definition's. Also the start, from n taken apart.
use Rattle.std.specs.Prelude.{Option, Some, None}
use Rattle.std.specs.Iterator.{MakesProgress, at_most}
use Prim.Native.Nat.{ℕ, zero, suc, ◌-◌, ◌/◌, ◌%◌, ◌^◌, ◌≤◌, ◌<◌, ◌∣◌}
use mathlib.Core.Path.{◌≡◌, sym, ap, ap₂, subst, ◌∙◌}
use mathlib.Core.List.{List}
use mathlib.Core.Bool.{Bool, false}
use mathlib.Core.Logic.{⊎_elim}
use native.Mathlib.Nat.{le_refl, le_of_dvd, eq-or-lt_of_le}
use native.Mathlib.Omega.{arith}
use lib.Dec.{eqb}
use lib.ListN.{length, get_or, take, replicate, length-append, length-replicate}
use lib.Seq.{length-take-le}
use lib.Bits.{bit_xor}
use lib.Count.{ones}
use borrow.Author.Tests.{lt-ltb, le-ltb}
use Rattle.definitions.specs.Numbers.{odd_prime_of, count_to, list_to, divides, r_of, k_of, divisors_below, mu_is_plus}
use Rattle.numbers.specs.Tests.{divides_yes, divides_no}
use Rattle.numbers.specs.Counts.{count-zero, count-further}
use Rattle.numbers.specs.Lists.{list_further, list_same, list_length, list_next, list_count, entry_has}
use Rattle.numbers.specs.Apart.{OddSquarefree, r_own, r-divides, r_odd_squarefree}
use Rattle.numbers.specs.HowMany.{k_of-r, r_same_primes, r-none-above}
use Rattle.numbers.specs.AtMostFive.{k_at_most_5}
use Rattle.numbers.specs.Below.{divisors_below_lem}
use Rattle.index.specs.Parts.{padded, parts_of}
use Rattle.definitions.specs.Numbers.{row_to}
use Rattle.divisors.specs.Masks.{mask_to}
use Rattle.divisors.proofs.MaskLaws.{mask_divides, divisor_mask, mask_mu, mask_xor}
use Rattle.index.proofs.Rows.{entry_new, row-r}
use Rattle.divisors.proofs.Searching.{front-row, front-least}
use Rattle.divisors.specs.Least.{Row, LeastTo}
use Rattle.divisors.specs.Walks.{divisor_at, last_of, walk_at, next_at, taken, Stands, over_parts}
use Rattle.divisors.specs.declared.NamedDivisor.{NamedDivisor}
use Rattle.divisors.specs.declared.Walk.{Walk}
use Rattle.divisors.specs.declared.Divisor.{Divisor}

-- the two cases of a turn
pub next_more :
    (r j : ℕ)
    → j < length (divisors_below r)
    → next_at r j
    ≡ (Some (record { size = divisor_at r j; plus = mu_is_plus (r / divisor_at r j) }), walk_at r (suc j))
unfolding next_at
next_more r j h = rw (lt-ltb j (length (divisors_below r)) h)

pub next-none : (r j : ℕ) → length (divisors_below r) ≤ j → next_at r j ≡ (None, walk_at r j)
unfolding next_at
next-none r j h = rw (le-ltb j (length (divisors_below r)) h)

module _ (r : ℕ) (O : OddSquarefree r) (u : r ≤ 65535) where
  pub row_is : r ≡ row_to (padded (list_to r (odd_prime_of r))) (k_of r)
  row_is = sym (row-r r ∙ r_own r O)

  pub row_of : Row (padded (list_to r (odd_prime_of r))) (k_of r)
  row_of = record { few = k_at_most_5 r u; new = entry_new r; bound = rw (← row_is) u }

  below_length : length (divisors_below r) ≡ count_to (r - 1) (λ d. divides d r)
  unfolding divisors_below
  below_length = list_length (λ d. divides d r) (r - 1)

  -- j divisors stand up to the one taken last, and it is below r
  last_count : (j : ℕ) → j ≤ length (divisors_below r) → count_to (last_of r j) (λ d. divides d r) ≡ j
  unfolding last_of divisors_below
  last_count zero h = count-zero (λ d. divides d r)
  last_count (suc j) h = list_count (λ d. divides d r) (r - 1) j h

  pub last_below : (j : ℕ) → j ≤ length (divisors_below r) → last_of r j < r
  unfolding last_of divisors_below
  last_below zero h = O.pos
  last_below (suc j) h = omega (arith, (entry_has (λ d. divides d r) (r - 1) j h).1, O.pos)

  module _ (j : ℕ) (h : j < length (divisors_below r)) (x : NamedDivisor)
      (f : LeastTo (padded (list_to r (odd_prime_of r))) (k_of r) (last_of r j) (2 ^ k_of r) x) where
    size-divides : x.size ∣ r
    size-divides =
        rw (f.names, ← row_is) at (mask_divides (padded (list_to r (odd_prime_of r))) (k_of r) x.mask f.inside)

    none_between : (d : ℕ) → last_of r j < d → d ≤ x.size - 1 → divides d r ≡ false
    none_between d a b = divides_no d r too_small
      where
        too_small : ¬ (d ∣ r)
        too_small e =
            let w : (m : ℕ) × (m < 2 ^ k_of r) × (mask_to (padded (list_to r (odd_prime_of r))) m (k_of r) ≡ d) =
            divisor_mask (padded (list_to r (odd_prime_of r))) (k_of r) (entry_new r) (k_of r) d (le_refl (k_of r))
            (subst (λ y. d ∣ y) row_is e) in
            omega (arith, w.2, f.least w.0 w.1 (omega (arith, w.2)), f.above)

    count-before : count_to (x.size - 1) (λ d. divides d r) ≡ j
    count-before =
        count-further (λ d. divides d r) (last_of r j) (x.size - 1) (omega (arith, f.above)) none_between
        ∙ last_count j (omega arith)

    size_below : x.size < r
    size_below =
        ⊎_elim (λ e. absurd (omega (arith, ap (λ y. count_to (y - 1) (λ d. divides d r)) e, count-before, below_length)))
        (λ v. v) (eq-or-lt_of_le (le_of_dvd O.pos size-divides))

    pub size-next : x.size ≡ divisor_at r j
    unfolding divisors_below
    size-next =
        sym whole
        ∙ (sym (list_next (λ d. divides d r) (x.size - 1) (r - 1) (omega (arith, size_below, f.above))
        (divides_yes (suc (x.size - 1)) r (rw whole size-divides)))
        ∙ ap (λ c. get_or (list_to (r - 1) (λ d. divides d r)) c 0) count-before)
      where
        whole : suc (x.size - 1) ≡ x.size
        whole = omega (arith, f.above)

    pub mu_next : eqb (ones (bit_xor (2 ^ k_of r - 1) x.mask) % 2) 0 ≡ mu_is_plus (r / x.size)
    mu_next =
        ap (λ y. eqb (ones y % 2) 0) (mask_xor (k_of r) x.mask f.inside)
        ∙ sym
        (ap₂ (λ a b. mu_is_plus (a / b)) row_is (sym f.names)
        ∙ mask_mu (padded (list_to r (odd_prime_of r))) (k_of r) (entry_new r) x.mask f.inside)

    -- the walk with the divisor found taken
    next-is :
        (p : List ℕ) (k d : ℕ) (b : Bool)
        → p ≡ padded (list_to r (odd_prime_of r))
        → k ≡ k_of r
        → d ≡ length (divisors_below r) - suc j
        → b ≡ mu_is_plus (r / x.size)
        → ◌≡◌ {A = Option Divisor × Walk} (
          Some (record { size = x.size; plus = b }),
          record { primes = p; count = k; r = r; last = x.size; due = d },
        ) (next_at r j)
    unfolding walk_at last_of
    next-is p k d b e₁ e₂ e₃ e₄ = rw (next_more r j h) same
      where
        mu : b ≡ mu_is_plus (r / divisor_at r j)
        mu = e₄ ∙ ap (λ y. mu_is_plus (r / y)) size-next

        same :
            ◌≡◌ {A = Option Divisor × Walk} (
              Some (record { size = x.size; plus = b }),
              record { primes = p; count = k; r = r; last = x.size; due = d },
            ) (Some (record { size = divisor_at r j; plus = mu_is_plus (r / divisor_at r j) }), walk_at r (suc j))
        same =
            λ i. (
              Some (record { size = size-next i; plus = mu i }),
              record { primes = e₁ i; count = e₂ i; r = r; last = size-next i; due = e₃ i },
            )

-- the walk after j divisors stands, and has taken j
pub taken_at : (r j : ℕ) → j ≤ length (divisors_below r) → taken (walk_at r j) ≡ j
unfolding taken walk_at
taken_at r j h = omega arith

pub stands_at : (r j : ℕ) → OddSquarefree r → r ≤ 65535 → j ≤ length (divisors_below r) → Stands (walk_at r j)
unfolding walk_at
stands_at r j O u h = record { squarefree = O; small = u; here = ap (walk_at r) (sym (taken_at r j h)) }

-- the same, for a walk that stands
module _ (w : Walk) (S : Stands w) where
  is_primes : w.primes ≡ padded (list_to w.r (odd_prime_of w.r))
  unfolding walk_at
  is_primes = ap (λ v. v.primes) S.here

  is_count : w.count ≡ k_of w.r
  unfolding walk_at
  is_count = ap (λ v. v.count) S.here

  is_last : w.last ≡ last_of w.r (taken w)
  unfolding walk_at
  is_last = ap (λ v. v.last) S.here

  is_due : w.due ≡ length (divisors_below w.r) - taken w
  unfolding walk_at
  is_due = ap (λ v. v.due) S.here

  taken-few : taken w ≤ length (divisors_below w.r)
  unfolding taken
  taken-few = omega arith

  -- the primes stand in the first places
  pub walk-room : w.count ≤ 5
  walk-room = rw is_count (k_at_most_5 w.r S.small)

  front-length : length (take w.count w.primes) ≡ w.count
  unfolding padded
  front-length =
      length-take-le w.count w.primes (rw is_primes
      (omega (
        arith,
        walk-room,
        length-append (list_to w.r (odd_prime_of w.r)) (replicate (5 - length (list_to w.r (odd_prime_of w.r))) 0),
        length-replicate {A = ℕ} (5 - length (list_to w.r (odd_prime_of w.r))) 0,
      )))

  -- what the search asks
  pub walk-row :
      Row (take w.count w.primes) (length (take w.count w.primes))
      × (w.r ≡ row_to (take w.count w.primes) (length (take w.count w.primes)))
      × (w.last < w.r)
  walk-row =
      rw front-length (front.0, whole ∙ sym front.1, last)
    where
      row : Row w.primes w.count
      row = rw (is_primes, is_count) (row_of w.r S.squarefree S.small)

      front : Row (take w.count w.primes) w.count × (row_to (take w.count w.primes) w.count ≡ row_to w.primes w.count)
      front = front-row w.primes w.count row

      whole : w.r ≡ row_to w.primes w.count
      whole = row_is w.r S.squarefree S.small ∙ ap₂ row_to (sym is_primes) (sym is_count)

      last : w.last < w.r
      last = rw is_last (last_below w.r S.squarefree S.small (taken w) taken-few)

  -- none is due
  pub walk_done : w.due ≡ 0 → ◌≡◌ {A = Option Divisor × Walk} (None, w) (next_at w.r (taken w))
  walk_done e = rw (next-none w.r (taken w) (omega (arith, is_due))) (λ i. (None, S.here i))

  pub walk-next :
      (x : NamedDivisor) (a : ℕ)
      → ¬ (w.due ≡ 0)
      → a ≡ 2 ^ w.count - 1
      → LeastTo (take w.count w.primes) (length (take w.count w.primes)) w.last
      (2 ^ length (take w.count w.primes)) x
      → ◌≡◌ {A = Option Divisor × Walk} (
        Some (record { size = x.size; plus = eqb (ones (bit_xor a x.mask) % 2) 0 }),
        record { primes = w.primes; count = w.count; r = w.r; last = x.size; due = w.due - 1 },
      ) (next_at w.r (taken w))
  walk-next x a n e f =
      let g : LeastTo (padded (list_to w.r (odd_prime_of w.r))) (k_of w.r) (last_of w.r (taken w))
      (2 ^ k_of w.r) x = rw (is_primes, is_count, is_last) at (front-least w.primes w.count (rw front-length at f)) in
      let more : taken w < length (divisors_below w.r) = omega (arith, is_due) in
      next-is w.r S.squarefree S.small (taken w) more x g w.primes w.count
      (w.due - 1) _ is_primes is_count (omega (arith, is_due))
      (ap (λ y. eqb (ones (bit_xor y x.mask) % 2) 0) (e ∙ ap (λ c. 2 ^ c - 1) is_count)
      ∙ mu_next w.r S.squarefree S.small (taken w) more x g)

  -- the walk after a turn stands, and one divisor less is due
  pub walk-goes :
      (d : Divisor) (t : Walk) → ¬ (w.due ≡ 0) → ◌≡◌ {A = Option Divisor × Walk} (Some d, t) (next_at w.r (taken w))
      → Stands t × (t.due < w.due)
  unfolding walk_at
  walk-goes d t n e =
      let more : taken w < length (divisors_below w.r) = omega (arith, is_due) in
      let on : t ≡ walk_at w.r (suc (taken w)) = ap (λ (p : Option Divisor × Walk). p.1) (e ∙ next_more w.r (taken w) more) in
      (rw on (stands_at w.r (suc (taken w)) S.squarefree S.small more), rw on (omega (arith, is_due)))

-- the walk over n taken apart is the one over r at its start
pub over-start : (n : ℕ) → 0 < n → over_parts (parts_of n) ≡ walk_at (r_of n) 0
unfolding parts_of walk_at last_of
over-start n l =
    λ i. record { primes = padded (same_list i); count = same_count i; r = r_of n; last = 0; due = due i }
  where
    same_list : list_to n (odd_prime_of n) ≡ list_to (r_of n) (odd_prime_of (r_of n))
    same_list =
        list_further (odd_prime_of n) (r_of n) n (le_of_dvd l (r-divides n)) (λ d a b. r-none-above n l d a)
        ∙ sym (list_same (r_of n) (λ d a b. r_same_primes n l d))

    same_count : k_of n ≡ k_of (r_of n)
    same_count = sym (k_of-r n l)

    due : 2 ^ k_of n - 1 ≡ length (divisors_below (r_of n)) - 0
    due = omega (arith, divisors_below_lem (r_of n) (r_odd_squarefree n), ap (λ k. 2 ^ k) (k_of-r n l))

-- a turn makes progress: while one is due the walk after it stands, and fewer are due
module _ (w : Walk) (S : Stands w) where
  pub walk_made : (r : Option Divisor) (t : Walk) → ◌≡◌ {A = Option Divisor × Walk} (r, t) (next_at w.r (taken w))
      → MakesProgress Stands (λ (v : Walk). at_most v.due) w r t
  walk_made None t e = record { on = λ _. tt; keeps = tt; rests = λ _. tt }
  walk_made (Some d) t e =
      let due : ¬ (w.due ≡ 0) = λ none.
      let p : ◌≡◌ {A = Option Divisor} (Some d) None = ap (λ (x : Option Divisor × Walk). x.0) (e ∙ sym (walk_done w S none)) in cc in
      let goes = walk-goes w S d t due e in record { on = λ _. (goes.0, tt, goes.1); keeps = goes.0; rests = λ _. tt }

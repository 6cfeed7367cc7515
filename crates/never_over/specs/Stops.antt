-- From the stops of a request to products over divisors. After j divisors the kept half is, but for the sign of the
-- start, the product of the terms of all divisors up to some m below r (`stop`); so where no such product has a value
-- above w in the kept half, no step of r is OVER (`never_over`).
use Prim.Native.Nat.{ℕ, zero, suc, ◌+◌, ◌-◌, ◌<◌, ◌≤◌}
use Rattle.std.specs.Prelude.{◌≡◌, cond, [], ◌∷◌, map, eqb, length}
use Rattle.std.proofs.Math.Path.{refl, sym, ap}
use Rattle.std.proofs.Common.{◌∙◌, arith}
use Rattle.std.proofs.Math.Bool.{Bool, true, false}
use Rattle.std.proofs.Math.ListN.{take, get_or}
use Rattle.std.proofs.Math.IntN.{nat_abs}
use Rattle.definitions.specs.Integers.{0ℤ}
use Rattle.definitions.specs.Series.{Series, 𝟙, _ˢ, ◌·◌}
use Rattle.definitions.specs.Numbers.{divides, list_to, divisors_below}
use Rattle.definitions.specs.Polynomials.{product_to, at_divisors}
use Rattle.definitions.specs.Steps.{stepped, entries}
use Rattle.definitions.specs.KeptHalf.{half_degree, sort_of, term, start, product_of, kept_series, kept_half}
use Rattle.definitions.specs.Requests.{next_divisor, divisors_due, over_at, over_among}
use Rattle.integers.specs.Solver.{:1, ◌:*◌, :-, x}
use Rattle.series.specs.Laws.{one_·, ringˢ, at__ˢ}
use Rattle.numbers.specs.Lists.{list_take, list_count, entry_has}
use Rattle.step_laws.specs.Firsts.{length-firsts, get_or-firsts}
use Rattle.step_laws.specs.Signed.{abs_⊖, in_range_lem}
use Rattle.step_laws.specs.Step.{get_or-step_list, not-over_all}
use Rattle.cyclotomic.specs.Kept.{list_product, step_kept}

-- the product of the terms of r's divisors up to m
unfoldable pub up_to : ℕ → ℕ → ℕ → Series
up_to kind r m = product_to m (at_divisors r (term kind r))

-- no such product has a value above w in the kept half
abbrev pub Held : ℕ → ℕ → ℕ → Type 0
Held w kind r = (m : ℕ) → m < r → (i : ℕ) → i < half_degree kind r + 1 → nat_abs (up_to kind r m i) ≤ w

module _ (kind r : ℕ) (pos : 0 < r) where
  -- the first j divisors are those up to some m
  first_ones : (j : ℕ) → j ≤ divisors_due r
      → (m : ℕ) × (m < r) × (take j (divisors_below r) ≡ list_to m (λ d. divides d r))
  unfolding divisors_due divisors_below list_to
  first_ones zero l = (0, pos, refl)
  first_ones (suc j) l =
      let q : ℕ → Bool = λ d. divides d r in
      let has = entry_has q (r - 1) j l in
      let m = get_or (list_to (r - 1) q) j 0 in (
        m,
        omega (arith, has.1),
        ap (λ c. take c (list_to (r - 1) q)) (sym (list_count q (r - 1) j l)) ∙ list_take q m (r - 1) has.1,
      )

  stop : (j : ℕ) → j ≤ divisors_due r → (m : ℕ) × (m < r) × (kept_series kind r j ≡ start kind · up_to kind r m)
  unfolding kept_series up_to at_divisors
  stop j l =
      let f = first_ones j l in (
        f.0,
        f.1,
        ap (λ ds. start kind · product_of (map (term kind r) ds)) f.2
            ∙ ap (λ q. start kind · q) (list_product (term kind r) (λ d. divides d r) f.0),
      )

  -- the start changes the sign alone
  start_keeps : (f : Series) (i : ℕ) → nat_abs ((start kind · f) i) ≡ nat_abs (f i)
  unfolding start
  start_keeps f i = go (eqb kind 1)
    where
      go : (b : Bool) → nat_abs ((cond b 𝟙 (_ˢ 𝟙) · f) i) ≡ nat_abs (f i)
      go true = ap (λ q. nat_abs (q i)) (one_· f)
      go false =
          ap (λ q. nat_abs (q i)) (ringˢ (f ∷ []) (:- :1 :* x) (:- x) refl) ∙ ap nat_abs (at__ˢ f i) ∙ abs_⊖ (f i)

  -- what a step makes at i is what stands there after it
  made :
      (j : ℕ) → j < divisors_due r → (i : ℕ) → i < length (kept_half kind r j)
      → stepped (sort_of kind r (next_divisor r j)) (next_divisor r j) (entries (kept_half kind r j)) i
      ≡ kept_series kind r (suc j) i
  unfolding next_divisor divisors_due divisors_below kept_half
  made j l i u =
      let n = half_degree kind r + 1 in
      sym (get_or-step_list (sort_of kind r (next_divisor r j)) (next_divisor r j) (kept_half kind r j) i u)
      ∙ ap (λ k. get_or k i 0ℤ) (step_kept kind r j l (entry_has (λ d. divides d r) (r - 1) j l).0)
      ∙ get_or-firsts n (kept_series kind r (suc j)) i (rw (length-firsts n (kept_series kind r j)) at u)

  module _ (w : ℕ) (held : Held w kind r) where
    not_at : (j : ℕ) → j < divisors_due r → over_at w kind r j ≡ false
    unfolding over_at kept_half
    not_at j l =
        let s = stop (suc j) l in
        let n = half_degree kind r + 1 in
        not-over_all (sort_of kind r (next_divisor r j)) (next_divisor r j) (kept_half kind r j) w
        (λ i from u. in_range_lem w _
        (rw (made j l i u, s.2, start_keeps (up_to kind r s.0) i)
        (held s.0 s.1 i (rw (length-firsts n (kept_series kind r j)) at u))))

    pub never_over : (j : ℕ) → j ≤ divisors_due r → over_among w kind r j ≡ false
    unfolding over_among
    never_over zero l = refl
    never_over (suc j) l = rw (never_over j (omega arith), not_at j l) refl

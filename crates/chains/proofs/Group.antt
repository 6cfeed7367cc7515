-- A group of neighbouring chains, row by row: before its second row, what a row asks and brings it, and that a whole
-- row brings it to the next one. The running sums are the new entries of the row before (step_laws: Chain).
use mathlib.Core.Path.{◌≡◌, refl, sym, ◌∙◌, ap, ap₂, subst}
use mathlib.Core.Bool.{false}
use mathlib.Core.List.{List}
use Prim.Native.Nat.{ℕ, ◌+◌, ◌-◌, ◌%◌, ◌<◌, ◌≤◌}
use native.Mathlib.Nat.{mod-eq_of_lt, mod-eq-sub-mod, add-mod_right}
use native.Mathlib.Omega.{arith}
use lib.ListN.{length, get_or}
use lib.IntN.{ℤ, nat_abs}
use Rattle.definitions.specs.Integers.{◌⊕◌, 0ℤ}
use Rattle.definitions.specs.Steps.{accumulated, entries, in_range}
use Rattle.step_laws.specs.Accumulated.{accumulated_from, accumulated_below}
use Rattle.step_laws.specs.Chain.{in_row, next_row_lem}
use Rattle.step_laws.specs.Signed.{range_in}
use Rattle.step_laws.specs.Tests.{by_order}
use Rattle.entry_steps.specs.Passes.{addable, Narrow}
use Rattle.entry_steps.specs.Asked.{Way, known, narrow, wide}
use Rattle.chains.specs.Chains.{sum_at, RowTaken, Each, Taken}
use Rattle.chains.specs.Tested.{AskedInRow, FoundInRow, Found, AskedOfGroup, Tested, GroupTaken}

-- the chains from c on, as many as there are sums, are taken and tested before the row that begins at k
pub record GroupAt (w d c g k : ℕ) (l a s : List ℤ) : Type 0 where
  pub first : k % d ≡ c
  pub from : d ≤ k
  pub most : k ≤ length l + d
  pub many : length s ≡ g
  pub tested : Tested w d c (c + g) k l a
  pub sums : (j : ℕ) → j < g → get_or s j 0ℤ ≡ accumulated d (entries l) (k - d + j)

early : {x y : ℕ} → x < y → y ≤ x → ⊥
early h m = omega arith

-- the places of a group, by its rows
module _ (d c g : ℕ) (one : 1 ≤ d) (room : c + g ≤ d) where
  -- below the second row only the first entries are taken
  pub each_first : (l : List ℤ) (P : ℕ → Type 0) → ((x : ℕ) → x < d → x < length l → P x) → Each d c (c + g) (c + d) l P
  each_first l P all x low high below in' =
      by_order x d (λ h. all x h in')
      (λ h.
      let e : x % d ≡ x - d = mod-eq-sub-mod h ∙ mod-eq_of_lt (omega arith) in
      absurd (clash h e below low))
    where
      clash : {x : ℕ} → d ≤ x → x % d ≡ x - d → x < c + d → c ≤ x % d → ⊥
      clash h e b low = omega arith

  module _ (k : ℕ) (r : k % d ≡ c) where
    pub member : (j : ℕ) → j < g → (k + j) % d ≡ c + j
    member j h = in_row d one k c j r (omega arith)

    -- a place of the row, by how far it is from its beginning
    at : (x : ℕ) → k ≤ x → x ≡ k + (x - k)
    at x h = omega arith

    in_group : (x q : ℕ) → q ≤ g → k ≤ x → x < k + q → (c ≤ x % d) × (x % d < c + g)
    in_group x q most low high =
        let e : x % d ≡ c + (x - k) = ap (λ y. y % d) (at x low) ∙ member (x - k) (omega arith) in
        (omega (arith, e), omega (arith, e))

    -- what holds of each place before the row and of the row's first q holds of each place before the next
    module _ (l : List ℤ) (P : ℕ → Type 0) where
      pub each_further : (q : ℕ) → Each d c (c + g) k l P → ((j : ℕ) → j < q → k + j < length l → P (k + j))
          → Each d c (c + g) (k + q) l P
      each_further q before row x low high below in' =
          by_order x k (λ h. before x low high h in')
          (λ h. subst P (sym (at x h)) (row (x - k) (omega arith) (omega arith)))

      -- between the row's end and the next row's beginning none is taken
      pub each_ahead : Each d c (c + g) (k + g) l P → Each d c (c + g) (k + d) l P
      each_ahead before x low high below in' =
          by_order x (k + g) (λ h. before x low high h in')
          (λ h.
          let e = ap (λ y. y % d) (at x (omega arith)) in
          by_order (c + (x - k)) d
          (λ b. absurd (beyond (e ∙ in_row d one k c (x - k) r b) h high))
          (λ b. absurd (beside (e ∙ next_row_lem d one k c (x - k) r b (omega arith)) b below low)))
        where
          beyond : {x : ℕ} → x % d ≡ c + (x - k) → k + g ≤ x → x % d < c + g → ⊥
          beyond e h b = omega arith

          beside : {x : ℕ} → x % d ≡ c + (x - k) - d → d ≤ c + (x - k) → x < k + d → c ≤ x % d → ⊥
          beside e m h b = omega arith

  -- before the second row
  pub group_start : (w : ℕ) (l s : List ℤ) → 1 ≤ g → c + g + d ≤ length l → length s ≡ g
      → ((j : ℕ) → j < g → get_or s j 0ℤ ≡ get_or l (c + j) 0ℤ) → GroupAt w d c g (c + d) l l s
  unfolding entries
  group_start w l s some long many begun =
      record {
        first = add-mod_right c d ∙ mod-eq_of_lt (omega arith);
        from = omega arith;
        most = omega arith;
        many = many;
        tested = record {
          taken = record {
            len = refl;
            new = each_first l (λ x. get_or l x 0ℤ ≡ accumulated d (entries l) x)
                (λ x h b. sym (accumulated_below d (entries l) x h));
            lower = λ x h b. refl;
            upper = λ x h b. refl;
            later = λ x h b. refl;
          };
          found = each_first l (Found w d l) (λ x h b from. absurd (early h from));
        };
        sums = λ j h.
            let back : c + d - d + j ≡ c + j = omega arith in
            begun j h
            ∙ sym (ap (accumulated d (entries l)) back ∙ accumulated_below d (entries l) (c + j) (omega arith));
      }

  -- a row
  module _ {w : ℕ} (k : ℕ) {l a s : List ℤ} (p : GroupAt w d c g k l a s) where
    -- what it makes is the accumulate's
    row_sum_lem : (j : ℕ) → j < g → k + j < length l → sum_at s a k j ≡ accumulated d (entries l) (k + j)
    row_sum_lem j h b =
        let back : k - d + j ≡ k + j - d = omega (arith, p.from) in
        ap₂ ◌⊕◌ (p.tested.taken.later (k + j) (omega arith) b)
        (p.sums j h ∙ ap (accumulated d (entries l)) back)
        ∙ sym (accumulated_from d (entries l) (k + j) one (omega (arith, p.from)))

    -- a sum is one of the first entries, or a value within w
    small_sum : Narrow w l → (j : ℕ) → j < g → k + j < length l → (x : ℕ) → x + d ≡ k + j
        → nat_abs (accumulated d (entries l) x) ≤ addable
    small_sum n j h b x e =
        by_order x d (λ low. rw (accumulated_below d (entries l) x low) (n.small x))
        (λ high.
        let r : x % d ≡ c + j = sym (add-mod_right x d) ∙ ap (λ y. y % d) e ∙ member k p.first j h in
        omega (
          arith,
          n.limit,
          range_in w (accumulated d (entries l) x)
              (p.tested.found x (omega (arith, r)) (omega (arith, r)) (omega arith) (omega arith) high).0,
        ))

    -- what is asked of the group is asked of the row
    pub asked-row : (t : Way) → AskedOfGroup t w d c (c + g) l → (j : ℕ) → j < g → k + j < length l
        → AskedInRow t w s a k j
    unfolding entries
    asked-row known asked j h b =
        let r = member k p.first j h in
        ap (in_range w) (row_sum_lem j h b)
        ∙ asked (k + j) (omega (arith, r)) (omega (arith, r)) b b (omega (arith, p.from))
    asked-row narrow n j h b = (
      rw (p.tested.taken.later (k + j) (omega arith) b) (n.small (k + j)),
      rw (p.sums j h) (small_sum n j h b (k - d + j) (omega (arith, p.from))),
    )
    asked-row wide _ j h b = tt

    -- its first q entries
    module _ {q : ℕ} {s' a' : List ℤ} (r : RowTaken k q s a s' a') (most : q ≤ g) (in' : k + q ≤ length l)
        (found : (j : ℕ) → j < q → FoundInRow w s a k j) where
      row-tested : Tested w d c (c + g) (k + q) l a'
      row-tested =
          record {
            taken = record {
              len = r.len ∙ t.len;
              new = each_further k p.first l (λ x. get_or a' x 0ℤ ≡ accumulated d (entries l) x) q
                  (λ x low high below b. r.others x (λ h _. early below h) ∙ t.new x low high below b)
                  (λ j h b. r.new j h ∙ row_sum_lem j (omega arith) b);
              lower = λ x h b. r.others x (λ low high. early h (in_group k p.first x q most low high).0)
                  ∙ t.lower x h b;
              upper = λ x h b. r.others x (λ low high. early (in_group k p.first x q most low high).1 h)
                  ∙ t.upper x h b;
              later = λ x h b. r.others x (λ low high. early high h) ∙ t.later x (omega arith) b;
            };
            found = each_further k p.first l (Found w d l) q p.tested.found
                (λ j h b from. (
                  ap (in_range w) (sym (row_sum_lem j (omega arith) b)) ∙ (found j h).0,
                  rw (t.later (k + j) (omega arith) b) at (found j h).1,
                ));
          }
        where
          t : Taken d c (c + g) k l a
          t = p.tested.taken

      -- the next one would pass w, or there is none
      pub row_stopped : (k + q < length l → (q < g) × (in_range w (sum_at s a k q) ≡ false))
          → GroupTaken w d c (c + g) l a' (k + q)
      row_stopped out =
          record {
            tested = row-tested;
            first = omega (arith, p.from);
            most = in';
            over = λ short. (
              omega (arith, member k p.first q (out short).0),
              ap (in_range w) (sym (row_sum_lem q (out short).0 short)) ∙ (out short).1,
            );
          }

    -- a whole one
    pub row_ahead : {s' a' : List ℤ} → RowTaken k g s a s' a' → k + g ≤ length l
        → ((j : ℕ) → j < g → FoundInRow w s a k j) → GroupAt w d c g (k + d) l a' s'
    row_ahead {s'} {a'} r in' found =
        let t = row-tested r (omega arith) in' found in
        record {
          first = add-mod_right k d ∙ p.first;
          from = omega arith;
          most = omega arith;
          many = r.sums ∙ p.many;
          tested = record {
            taken = record {
              len = t.taken.len;
              new = each_ahead k p.first l (λ x. get_or a' x 0ℤ ≡ accumulated d (entries l) x) t.taken.new;
              lower = t.taken.lower;
              upper = t.taken.upper;
              later = λ x h b. t.taken.later x (omega arith) b;
            };
            found = each_ahead k p.first l (Found w d l) t.found;
          };
          sums = λ j h.
              let back : k + d - d + j ≡ k + j = omega arith in
              r.carried j h ∙ row_sum_lem j h (omega arith) ∙ ap (accumulated d (entries l)) (sym back);
        }

-- the same, its numbers written otherwise
pub settled : {w d c to to' r r' : ℕ} {l m : List ℤ} → to ≡ to' → r ≡ r' → GroupTaken w d c to l m r
    → GroupTaken w d c to' l m r'
settled {w} {d} {c} {to} {r' = r'} {l} {m} e f t =
    subst (λ x. GroupTaken w d c x l m r') e (subst (GroupTaken w d c to l m) f t)

-- A chain of size d: the entries whose places leave one remainder of division by d. An accumulate makes a(i) into the
-- sum of the old entries of its chain up to i; so one chain needs nothing of another, and a running sum is enough. Then
-- which places of a row, from one with the remainder c on, are those of which chains.
use Rattle.std.specs.Prelude.{◌≡◌, ℤ}
use Rattle.std.proofs.Common.{sym, ◌∙◌, mod-lt, mod-eq_of_lt, suc-mul, mul-le-mul_right, arith}
use Rattle.std.proofs.Math.Path.{ap, ap₂}
use Prim.Native.Nat.{ℕ, zero, suc, ◌+◌, ◌*◌, ◌-◌, ◌/◌, ◌%◌, ◌<◌, ◌≤◌}
use Rattle.std.proofs.Math.Nat.{mod-add-mod, mod-eq-sub-mod, mod-add-div', add-mul-mod_self_right, zero-mul}
use Rattle.definitions.specs.Integers.{◌⊕◌}
use Rattle.definitions.specs.Series.{Series}
use Rattle.definitions.specs.Steps.{accumulated}
use Rattle.step_laws.specs.Accumulated.{accumulated_from, accumulated_below}

-- the sum of the entry at c and of so many others, each d after the one before
unfoldable pub chain_sum : ℕ → Series → ℕ → ℕ → ℤ
chain_sum d a c zero = a c
chain_sum d a c (suc turns) = a (c + suc turns * d) ⊕ chain_sum d a c turns

module _ (d : ℕ) (one : 1 ≤ d) where
  -- the place of one turn more
  turn : (c t : ℕ) → c + suc t * d ≡ c + t * d + d
  turn c t = omega (arith, suc-mul t d)

  pub chain_law : (a : Series) (c : ℕ) → c < d → (turns : ℕ) → accumulated d a (c + turns * d) ≡ chain_sum d a c turns
  unfolding chain_sum
  chain_law a c h zero =
      let e : c + zero * d ≡ c = omega (arith, zero-mul d) in
      ap (accumulated d a) e ∙ accumulated_below d a c h
  chain_law a c h (suc t) =
      let back : c + suc t * d - d ≡ c + t * d = omega (arith, turn c t) in
      accumulated_from d a (c + suc t * d) one (omega (arith, turn c t))
      ∙ ap (λ v. a (c + suc t * d) ⊕ v) (ap (accumulated d a) back ∙ chain_law a c h t)

  -- new a(i) is the sum of the old entries of its chain up to i
  pub new_is_sum : (a : Series) (i : ℕ) → accumulated d a i ≡ chain_sum d a (i % d) (i / d)
  new_is_sum a i = ap (accumulated d a) (sym (mod-add-div' i d)) ∙ chain_law a (i % d) (mod-lt i one) (i / d)

  -- so it needs those alone
  module _ (a b : Series) (c : ℕ) where
    sum_same : (turns : ℕ) → ((t : ℕ) → t ≤ turns → a (c + t * d) ≡ b (c + t * d)) → chain_sum d a c turns
        ≡ chain_sum d b c turns
    unfolding chain_sum
    sum_same zero same =
        let e : c + zero * d ≡ c = omega (arith, zero-mul d) in
        ap a (sym e) ∙ same zero (omega arith) ∙ ap b e
    sum_same (suc n) same = ap₂ ◌⊕◌ (same (suc n) (omega arith)) (sum_same n (λ t h. same t (omega arith)))

  pub same_chain : (a b : Series) (i : ℕ) → ((k : ℕ) → k % d ≡ i % d → k ≤ i → a k ≡ b k)
      → accumulated d a i ≡ accumulated d b i
  same_chain a b i same =
      new_is_sum a i
      ∙ sum_same a b (i % d) (i / d)
      (λ t h.
      same (i % d + t * d)
      (add-mul-mod_self_right (i % d) t d ∙ mod-eq_of_lt (mod-lt i one))
      (omega (arith, mod-add-div' i d, mul-le-mul_right d h)))
      ∙ sym (new_is_sum b i)

  -- the place e after one with the remainder c: its chain is that e further on, or it is in the next row
  module _ (k c e : ℕ) (r : k % d ≡ c) where
    pub in_row : c + e < d → (k + e) % d ≡ c + e
    in_row h = sym (mod-add-mod k d e) ∙ ap (λ x. (x + e) % d) r ∙ mod-eq_of_lt h

    pub next_row_lem : d ≤ c + e → e < d → (k + e) % d ≡ c + e - d
    next_row_lem h b =
        let low : c < d = omega (arith, mod-lt k one) in
        sym (mod-add-mod k d e)
        ∙ ap (λ x. (x + e) % d) r
        ∙ mod-eq-sub-mod h
        ∙ mod-eq_of_lt (omega arith)

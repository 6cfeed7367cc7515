-- `count_to` and `product_of_to` are folds, in the sums and in the products of numbers; what a count is at least and at
-- most; and the sum over k periods.
use Prim.Native.Nat.{ℕ, zero, suc, ◌+◌, ◌*◌, ◌≤◌, ◌<◌}
use Rattle.std.specs.Prelude.{◌≡◌, Bool, true, false, not, ◌&&◌, ◌≢◌}
use Rattle.std.proofs.Math.Path.{refl, ap}
use Rattle.std.proofs.Common.{sym, ap₂, ◌∙◌, add_assoc, add_comm, add-zero, add-suc, le_refl, zero-add, mul_assoc, mul_comm, one-mul, mul-zero, zero-mul}
use Rattle.std.proofs.Math.Bool.{cond}
use Rattle.std.proofs.Math.Logic.{⊎_elim}
use Rattle.std.proofs.Math.Nat.{mul-one, le-suc_iff}
use native.Mathlib.Omega.{arith}
use Rattle.definitions.specs.Numbers.{count_to, product_of_to}
use Rattle.numbers.specs.Folds.{fold-further, fold-one, fold-by, only_off, Monoid, fold_to, only, fold-zero}
use Rattle.numbers.specs.Folds.{fold_same, fold-add}

abbrev pub sums : Monoid ℕ
sums = record { op = ◌+◌; unit = 0; assoc = add_assoc; comm = add_comm; unit_left = zero-add }

abbrev pub products : Monoid ℕ
products = record { op = ◌*◌; unit = 1; assoc = mul_assoc; comm = mul_comm; unit_left = one-mul }

pub count-fold : (k : ℕ) (q : ℕ → Bool) → count_to k q ≡ fold_to sums (only sums q (λ d. 1)) k
unfolding count_to fold_to
count-fold zero q = refl
count-fold (suc k) q = ap (λ c. c + cond (q (suc k)) 1 0) (count-fold k q)

pub product-fold : (k : ℕ) (q : ℕ → Bool) → product_of_to k q ≡ fold_to products (only products q (λ d. d)) k
unfolding product_of_to fold_to
product-fold zero q = refl
product-fold (suc k) q = ap (λ c. c * cond (q (suc k)) (suc k) 1) (product-fold k q)

-- a count of equal tests
pub count_same : {q s : ℕ → Bool} (k : ℕ) → ((d : ℕ) → 0 < d → d ≤ k → q d ≡ s d) → count_to k q ≡ count_to k s
count_same {q} {s} k e =
    count-fold k q ∙ (fold_same sums k (λ d l u. ap (λ b. cond b 1 0) (e d l u)) ∙ sym (count-fold k s))

module _ (q : ℕ → Bool) where
  pub count-zero : count_to 0 q ≡ 0
  unfolding count_to
  count-zero = refl

  pub count-suc : (k : ℕ) → count_to (suc k) q ≡ count_to k q + cond (q (suc k)) 1 0
  unfolding count_to
  count-suc k = refl

  pub count_yes : (k : ℕ) → q (suc k) ≡ true → count_to (suc k) q ≡ count_to k q + 1
  count_yes k e = count-suc k ∙ ap (λ b. count_to k q + cond b 1 0) e

  pub count_no : (k : ℕ) → q (suc k) ≡ false → count_to (suc k) q ≡ count_to k q
  count_no k e = count-suc k ∙ (ap (λ b. count_to k q + cond b 1 0) e ∙ add-zero (count_to k q))

  pub product_yes : (k : ℕ) → q (suc k) ≡ true → product_of_to (suc k) q ≡ product_of_to k q * suc k
  unfolding product_of_to
  product_yes k e = ap (λ b. product_of_to k q * cond b (suc k) 1) e

  pub product_no : (k : ℕ) → q (suc k) ≡ false → product_of_to (suc k) q ≡ product_of_to k q
  unfolding product_of_to
  product_no k e = ap (λ b. product_of_to k q * cond b (suc k) 1) e ∙ mul-one (product_of_to k q)

  -- a count goes no further where no number more has the property
  pub count-further :
      (m k : ℕ) → m ≤ k → ((d : ℕ) → m < d → d ≤ k → q d ≡ false) → count_to k q ≡ count_to m q
  count-further m k l e =
      count-fold k q
      ∙ (fold-further sums _ m k l (λ d a b. only_off sums _ _ (e d a b)) ∙ sym (count-fold m q))

  -- just one number has it
  pub count-one :
      (p k : ℕ) → 0 < p → p ≤ k → q p ≡ true → ((d : ℕ) → 0 < d → d ≤ k → d ≢ p → q d ≡ false) → count_to k q ≡ 1
  count-one p k l u e others =
      count-fold k q
      ∙ (fold-one sums _ p k l u (λ d a b c. only_off sums _ _ (others d a b c)) ∙ ap (λ b. cond b 1 0) e)

  -- those that pass a further test, and those that do not
  pub count_by : (c : ℕ → Bool) (k : ℕ) → count_to k q ≡ count_to k (λ d. q d && c d) + count_to k (λ d. q d && not (c d))
  count_by c k =
      count-fold k q ∙ (fold-by sums q c (λ d. 1) k ∙ sym (ap₂ ◌+◌ (count-fold k _) (count-fold k _)))

  one_at_most : (b : Bool) → cond b 1 0 ≤ 1
  one_at_most true = omega arith
  one_at_most false = omega arith

  pub count-le : (k : ℕ) → count_to k q ≤ k
  unfolding count_to
  count-le zero = omega arith
  count-le (suc k) = omega (arith, count-le k, one_at_most (q (suc k)))

  pub count_up : (m j : ℕ) → count_to m q ≤ count_to (m + j) q
  count_up m zero = rw (add-zero m) (le_refl (count_to m q))
  count_up m (suc j) = rw (add-suc m j) (omega (arith, count_up m j, count-suc (m + j)))

  -- one number with the property makes the count 1 or more
  pub count-pos : (k c : ℕ) → 0 < c → c ≤ k → q c ≡ true → 0 < count_to k q
  unfolding count_to
  count-pos zero c l u e = omega arith
  count-pos (suc k) c l u e = ⊎_elim (λ v. omega (arith, count-pos k c l v e)) here (le-suc_iff.0 u)
    where
      here : c ≡ suc k → 0 < count_to k q + cond (q (suc k)) 1 0
      here v = rw (ap q (sym v) ∙ e) (omega arith)

-- a sum over k periods of n is k times that over one
pub sum-periods :
    (g : ℕ → ℕ) (n : ℕ) → ((a : ℕ) → 0 < a → g (n + a) ≡ g a) → (k : ℕ) → fold_to sums g (n * k) ≡ k * fold_to sums g n
sum-periods g n e zero = rw (mul-zero n, fold-zero, zero-mul) refl
sum-periods g n e (suc k) =
    ap (fold_to sums g) (omega arith)
    ∙ (fold-add sums g n (n * k)
    ∙ (ap (λ x. fold_to sums g n + x) (fold_same sums (n * k) (λ d l u. e d l) ∙ sum-periods g n e k) ∙ omega arith))

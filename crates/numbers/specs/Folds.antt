-- g(1) g(2) .. g(k) in a commutative monoid: taken apart at a place, by a test, or into two factors; taken further
-- where only units follow; and taken over the multiples of p where elsewhere only units stand.
use Prim.Native.Nat.{ℕ, zero, suc, ◌+◌, ◌*◌, ◌-◌, ◌≤◌, ◌<◌, ◌∣◌}
use Rattle.std.specs.Prelude.{◌≡◌, Bool, true, false, not, cond, ◌&&◌, ◌≢◌, eqb}
use Rattle.std.proofs.Math.Path.{refl, ap₂}
use Rattle.std.proofs.Common.{sym, ap, ◌∙◌, add-zero, add-suc, suc-mul, zero-mul, add-sub_of_le, le_refl, le_antisymm, arith, eq-eqb, ne_eqb}
use Rattle.std.proofs.Math.Nat.{dvd-mul_left, dvd-add_iff_right, le_of_dvd}

pub record Monoid (A : Type 0) : Type 0 where
  pub op : A → A → A
  pub unit : A
  pub assoc : (a b c : A) → op (op a b) c ≡ op a (op b c)
  pub comm : (a b : A) → op a b ≡ op b a
  pub unit_left : (a : A) → op unit a ≡ a

module _ {A : Type 0} (M : Monoid A) where
  unfoldable pub fold_to : (ℕ → A) → ℕ → A
  fold_to g zero = M.unit
  fold_to g (suc k) = M.op (fold_to g k) (g (suc k))

  pub fold-zero : (g : ℕ → A) → fold_to g 0 ≡ M.unit
  unfolding fold_to
  fold-zero g = refl

  pub fold-suc : (g : ℕ → A) (k : ℕ) → fold_to g (suc k) ≡ M.op (fold_to g k) (g (suc k))
  unfolding fold_to
  fold-suc g k = refl

  -- g where the test is true, and the unit elsewhere
  abbrev pub only : (ℕ → Bool) → (ℕ → A) → ℕ → A
  only q g d = cond (q d) (g d) M.unit

  pub only_off : (b : Bool) (x : A) → b ≡ false → cond b x M.unit ≡ M.unit
  only_off b x e = rw e

  pub unit_right : (a : A) → M.op a M.unit ≡ a
  unit_right a = M.comm a M.unit ∙ M.unit_left a

  pub exchange : (a b c d : A) → M.op (M.op a b) (M.op c d) ≡ M.op (M.op a c) (M.op b d)
  exchange a b c d = M.assoc a b _ ∙ (ap (M.op a) across ∙ sym (M.assoc a c _))
    where
      across : M.op b (M.op c d) ≡ M.op c (M.op b d)
      across = sym (M.assoc b c d) ∙ (ap (λ x. M.op x d) (M.comm b c) ∙ M.assoc c b d)

  -- two folds of equal things
  pub fold_same :
      {g h : ℕ → A} (k : ℕ) → ((d : ℕ) → 0 < d → d ≤ k → g d ≡ h d) → fold_to g k ≡ fold_to h k
  unfolding fold_to
  fold_same zero e = refl
  fold_same (suc k) e = ap₂ M.op (fold_same k (λ d l u. e d l (omega arith))) (e (suc k) (omega arith) (omega arith))

  pub fold_both : (g h : ℕ → A) (k : ℕ) → fold_to (λ d. M.op (g d) (h d)) k ≡ M.op (fold_to g k) (fold_to h k)
  fold_both g h zero = simp fold-zero (sym (M.unit_left M.unit))
  fold_both g h (suc k) = simp (fold-suc, fold_both g h k) (exchange _ _ _ _)

  pub fold_units : {g : ℕ → A} (k : ℕ) → ((d : ℕ) → 0 < d → d ≤ k → g d ≡ M.unit) → fold_to g k ≡ M.unit
  unfolding fold_to
  fold_units zero e = refl
  fold_units (suc k) e =
      ap₂ M.op (fold_units k (λ d l u. e d l (omega arith))) (e (suc k) (omega arith) (omega arith))
      ∙ M.unit_left M.unit

  -- the first m, then k more
  pub fold-add : (g : ℕ → A) (m k : ℕ) → fold_to g (m + k) ≡ M.op (fold_to g m) (fold_to (λ d. g (m + d)) k)
  fold-add g m zero = rw (add-zero, fold-zero) (sym (unit_right _))
  fold-add g m (suc k) = simp (add-suc, fold-suc, fold-add g m k) (M.assoc _ _ _)

  -- further, where only units follow
  pub fold-further :
      (g : ℕ → A) (m k : ℕ) → m ≤ k → ((d : ℕ) → m < d → d ≤ k → g d ≡ M.unit) → fold_to g k ≡ fold_to g m
  fold-further g m k l e =
      rw (add-sub_of_le l) at
      (fold-add g m (k - m)
      ∙ (ap (M.op _) (fold_units (k - m) (λ d a b. e (m + d) (omega arith) (omega arith))) ∙ unit_right _))

  -- all but one are units
  pub fold-one :
      (g : ℕ → A) (p k : ℕ) → 0 < p → p ≤ k → ((d : ℕ) → 0 < d → d ≤ k → d ≢ p → g d ≡ M.unit) → fold_to g k ≡ g p
  unfolding fold_to
  fold-one g zero k l u e = absurd (omega arith)
  fold-one g (suc p) k l u e =
      fold-further g (suc p) k u (λ d a b. e d (omega arith) b (omega arith))
      ∙ (ap (λ x. M.op x (g (suc p))) (fold_units p (λ d a b. e d a (omega arith) (omega arith))) ∙ M.unit_left _)

  -- one of them taken out
  pub fold-apart :
      (g : ℕ → A) (p k : ℕ) → 0 < p → p ≤ k → fold_to g k ≡ M.op (g p) (fold_to (λ d. cond (eqb d p) M.unit (g d)) k)
  fold-apart g p k l u =
      fold_same k (λ d a b. go (eqb d p) (g d)) ∙ fold_both (λ d. cond (eqb d p) (g d) M.unit) _ k
      ∙ ap (λ x. M.op x (fold_to (λ d. cond (eqb d p) M.unit (g d)) k))
      (fold-one _ p k l u (λ d a b n. ap (λ c. cond c (g d) M.unit) (ne_eqb d p n))
      ∙ ap (λ c. cond c (g p) M.unit) (eq-eqb p p refl))
    where
      go : (b : Bool) (x : A) → x ≡ M.op (cond b x M.unit) (cond b M.unit x)
      go true x = sym (unit_right x)
      go false x = sym (M.unit_left x)

  -- by a test: those where it is true, and those where it is false
  only_by : (b c : Bool) (x : A) → cond b x M.unit
      ≡ M.op (cond (b && c) x M.unit) (cond (b && not c) x M.unit)
  only_by true true x = sym (unit_right x)
  only_by true false x = sym (M.unit_left x)
  only_by false c x = sym (M.unit_left M.unit)

  pub fold-by :
      (b c : ℕ → Bool) (g : ℕ → A) (k : ℕ)
      → fold_to (only b g) k ≡ M.op (fold_to (only (λ d. b d && c d) g) k) (fold_to (only (λ d. b d && not (c d)) g) k)
  fold-by b c g k = fold_same k (λ d l u. only_by (b d) (c d) (g d)) ∙ fold_both _ _ k

  -- over the multiples of p, where elsewhere only units stand
  pub fold-multiples :
      (g : ℕ → A) (p : ℕ) → 0 < p → ((d : ℕ) → ¬ (p ∣ d) → g d ≡ M.unit) → (n : ℕ)
      → fold_to g (n * p) ≡ fold_to (λ e. g (p * e)) n
  fold-multiples g p l e zero = simp (zero-mul, fold-zero)
  fold-multiples g p l e (suc n) =
      rw (suc-mul n p, fold-add g (n * p) p, fold-suc _ n)
      (ap₂ M.op (fold-multiples g p l e n) (fold-one _ p p l (le_refl p) between ∙ ap g (omega arith)))
    where
      between : (d : ℕ) → 0 < d → d ≤ p → d ≢ p → g (n * p + d) ≡ M.unit
      between d a b c =
          e (n * p + d) (λ h. c (le_antisymm b (le_of_dvd a ((dvd-add_iff_right p (dvd-mul_left p n)).1 h))))

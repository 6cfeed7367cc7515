-- The recursion over the primes, as the code has it: none is left, or there is a last one; and rows that begin alike
-- have the same terms.
use Prim.Native.Nat.{ℕ, zero, suc, ◌+◌, ◌*◌, ◌<◌, ◌≤◌}
use mathlib.Core.Path.{◌≡◌, refl, sym, ◌∙◌, ap, ap₂, subst}
use mathlib.Core.List.{List, [], ◌∷◌, ◌++◌}
use native.Mathlib.Omega.{arith}
use lib.ListN.{length, get_or, take, get_or-append}
use lib.Seq.{get_or-take, get_or-append-add, length-take-le}
use Rattle.definitions.specs.Numbers.{row_to}
use Rattle.definitions.specs.Series.{◌·◌}
use Rattle.definitions.specs.Steps.{Sort}
use Rattle.definitions.specs.KeptHalf.{term_of}
use Rattle.cyclotomic.specs.Terms.{other}
use Rattle.factor_steps.specs.Factors.{terms_of}
use Rattle.factor_steps.specs.Multiplied.{Due}
use Rattle.factor_steps.specs.Multiplied as M

-- ---- rows that begin alike
module _ (l l' : List ℕ) where
  row_alike : (k : ℕ) → ((i : ℕ) → i < k → get_or l i 0 ≡ get_or l' i 0) → row_to l k ≡ row_to l' k
  unfolding row_to
  row_alike zero h = refl
  row_alike (suc k) h = ap₂ ◌*◌ (row_alike k (λ i b. h i (omega arith))) (h k (omega arith))

  due_alike : {k s : ℕ} → ((i : ℕ) → i < k → get_or l i 0 ≡ get_or l' i 0) → Due l k s → Due l' k s
  due_alike {k} h d =
      record {
        few = d.few;
        size = d.size;
        each = λ i b. rw (sym (h i b)) (d.each i b);
        most = rw (sym (row_alike k h)) d.most;
      }

  terms_alike : (k s : ℕ) (σ : Sort) → ((i : ℕ) → i < k → get_or l i 0 ≡ get_or l' i 0)
      → terms_of l k s σ ≡ terms_of l' k s σ
  unfolding terms_of
  terms_alike zero s σ h = refl
  terms_alike (suc k) s σ h =
      ap₂ ◌·◌ (terms_alike k s (other σ) (λ i b. h i (omega arith)))
      (ap (λ p. terms_of l k (s * p) σ) (h k (omega arith))
      ∙ terms_alike k (s * get_or l' k 0) σ (λ i b. h i (omega arith)))

-- the first k of a row by themselves
module _ (k s : ℕ) (l : List ℕ) (enough : k ≤ length l) where
  pub due_front : Due l k s → Due (take k l) (length (take k l)) s
  due_front d = rw (length-take-le k l enough) (due_alike l (take k l) (λ i b. sym (get_or-take k l i 0 b)) d)

  pub terms-front : (σ : Sort) → terms_of (take k l) (length (take k l)) s σ ≡ terms_of l k s σ
  terms-front σ =
      rw (length-take-le k l enough) (terms_alike (take k l) l k s σ (λ i b. get_or-take k l i 0 b))

-- ---- none is left, or there is a last one
pub terms-none : (l : List ℕ) (s : ℕ) (σ : Sort) → length l ≡ 0 → term_of σ s ≡ terms_of l (length l) s σ
unfolding terms_of
terms-none l s σ e = sym (ap (λ j. terms_of l j s σ) e)

module _ (l rest : List ℕ) (p s : ℕ) (cut : (l ≡ rest ++ (p ∷ [])) × (length rest + 1 ≡ length l)) where
  p_is : p ≡ get_or l (length rest) 0
  p_is =
      let at : length rest ≡ length rest + 0 = omega arith in
      sym (ap (λ x. get_or x (length rest) 0) cut.0 ∙ ap (λ i. get_or (rest ++ (p ∷ [])) i 0) at
      ∙ get_or-append-add rest (p ∷ []) 0 0)

  rest_same : (i : ℕ) → i < length rest → get_or l i 0 ≡ get_or rest i 0
  rest_same i b = ap (λ x. get_or x i 0) cut.0 ∙ get_or-append rest (p ∷ []) 0 i b

  count : length l ≡ suc (length rest)
  count = omega (arith, cut.1)

  pub terms_more : (σ : Sort)
      → terms_of rest (length rest) s (other σ) · terms_of rest (length rest) (s * p) σ ≡ terms_of l (length l) s σ
  unfolding terms_of
  terms_more σ =
      ap₂ ◌·◌ (sym (terms_alike l rest (length rest) s (other σ) rest_same))
      (sym (terms_alike l rest (length rest) (s * p) σ rest_same)
      ∙ ap (λ q. terms_of l (length rest) (s * q) σ) p_is)
      ∙ ap (λ j. terms_of l j s σ) (sym count)

  module _ (d : Due l (length l) s) where
    due_now : Due l (suc (length rest)) s
    due_now = subst (λ j. Due l j s) count d

    pub due_larger : Due rest (length rest) (s * p)
    due_larger = rw p_is (due_alike l rest rest_same (M.due_larger l (length rest) s due_now))

    pub larger_small : s * p ≤ 65535
    larger_small = rw p_is (M.larger_small l (length rest) s due_now)

    pub due_same : Due rest (length rest) s
    due_same = due_alike l rest rest_same (M.due_same l (length rest) s due_now)

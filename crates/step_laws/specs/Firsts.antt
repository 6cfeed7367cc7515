-- Lists and the series of their entries: `firsts n f` has n entries, the one at k is f k, and a list is the firsts of
-- its entries. By induction on n.
use Rattle.std.specs.Prelude.{◌≡◌, refl, List, ℕ, zero, suc, ◌<◌, ◌≤◌, length, get_or, ℤ}
use Rattle.std.proofs.Common.{sym, ◌∙◌, ap, not-suc-le-zero, le_of_suc-le-suc, arith, ext_get_or}
use Rattle.std.proofs.Math.ListN.{get_or-eq_default}
use Rattle.definitions.specs.Integers.{0ℤ}
use Rattle.definitions.specs.Series.{Series, tail, firsts}
use Rattle.definitions.specs.Steps.{entries}

pub length-firsts : (n : ℕ) (f : Series) → length (firsts n f) ≡ n
unfolding firsts
length-firsts zero f = refl
length-firsts (suc n) f = ap suc (length-firsts n (tail f))

pub get_or-firsts : (n : ℕ) (f : Series) (k : ℕ) → k < n → get_or (firsts n f) k 0ℤ ≡ f k
unfolding firsts
get_or-firsts zero f k h = absurd (not-suc-le-zero h)
get_or-firsts (suc n) f zero h = refl
get_or-firsts (suc n) f (suc k) h = get_or-firsts n (tail f) k (le_of_suc-le-suc h)

-- a list of n entries, each that of f, is the firsts of f
pub is_firsts : (n : ℕ) (f : Series) (l : List ℤ) → length l ≡ n → ((k : ℕ) → k < n → get_or l k 0ℤ ≡ f k)
    → l ≡ firsts n f
is_firsts n f l e h =
    ext_get_or 0ℤ l (firsts n f) (e ∙ sym (length-firsts n f))
    (λ k b. let below : k < n = omega arith in h k below ∙ sym (get_or-firsts n f k below))

pub firsts-entries : (l : List ℤ) → firsts (length l) (entries l) ≡ l
unfolding entries
firsts-entries l = sym (is_firsts (length l) (entries l) l refl (λ k h. refl))

-- only the first n entries count
pub firsts_same : (n : ℕ) (f g : Series) → ((k : ℕ) → k < n → f k ≡ g k) → firsts n f ≡ firsts n g
firsts_same n f g h = is_firsts n g (firsts n f) (length-firsts n f) (λ k b. get_or-firsts n f k b ∙ h k b)

-- past the end of a list stand zeros
pub entries_past : (l : List ℤ) (k : ℕ) → length l ≤ k → entries l k ≡ 0ℤ
unfolding entries
entries_past l k h = get_or-eq_default l 0ℤ {n = k} h

-- the entries of the firsts
module _ (n : ℕ) (f : Series) (k : ℕ) where
  pub firsts_here : k < n → entries (firsts n f) k ≡ f k
  unfolding entries
  firsts_here h = get_or-firsts n f k h

  pub firsts_past : n ≤ k → entries (firsts n f) k ≡ 0ℤ
  firsts_past h = entries_past (firsts n f) k (omega (arith, length-firsts n f))

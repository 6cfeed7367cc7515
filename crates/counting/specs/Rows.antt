-- What the rows of a census are, and what is shown of them: they are ascending by height (`ascending`); the numbers of
-- indices add up to b - a + 1 (`counts_add_up`); each row has the height of its smallest index, which no smaller one
-- from a on has, and the number of those that have it (`row_means`); every height that occurs has its row
-- (`height_has_row`). All go over the heights below k, one more at a time.
use Rattle.std.specs.Prelude.{ℕ, zero, suc, ◌+◌, ◌-◌, ◌≤◌, ◌<◌, ◌≡◌, refl, Bool, true, false, cond, ◌≢◌, ◌⊎◌, eqb, ltb, length, get_or}
use Rattle.std.proofs.Common.{sym, ◌∙◌, ap, subst, eqb-true, ltb-true, ltb-false, lt-ltb, le-ltb}
use Rattle.std.proofs.Math.Logic.{inl, inr, ⊎_elim}
use mathlib.Core.List.{List, [], ◌∷◌, ◌++◌, append-nil}
use native.Mathlib.Omega.{arith}
use Rattle.std.proofs.Math.Nat as NatL
use Rattle.std.proofs.lemmas.Bool.{eqb-false}
use Rattle.definitions.specs.Answer.{height}
use Rattle.counting.specs.Census.{indices, from_to, with_height, tallest, row_of, rows_below, rows_of, census}

-- rows of heights from `low` to below `high`, ascending
pub data Ascending (high : ℕ) : ℕ → List ℕ → Type 0 where
  end : {low : ℕ} → Ascending high low []
  row : {low h n c : ℕ} {rest : List ℕ} → low ≤ h → h < high → Ascending high (suc h) rest
      → Ascending high low (h ∷ n ∷ c ∷ rest)

-- the row of a height is among some
pub data RowIn (h n c : ℕ) : List ℕ → Type 0 where
  here : {rest : List ℕ} → RowIn h n c (h ∷ n ∷ c ∷ rest)
  later : {x y z : ℕ} {rest : List ℕ} → RowIn h n c rest → RowIn h n c (x ∷ y ∷ z ∷ rest)

-- the numbers of indices of all rows together
unfoldable pub counts_of : List ℕ → ℕ
counts_of [] = 0
counts_of (h ∷ []) = 0
counts_of (h ∷ n ∷ []) = 0
counts_of (h ∷ n ∷ c ∷ rest) = c + counts_of rest

-- ---- one row more at the end
wider : {k low : ℕ} {l : List ℕ} → Ascending k low l → Ascending (suc k) low l
wider end = end
wider (row f b more) = row f (omega arith) (wider more)

module _ (k n c : ℕ) where
  at_end : {low : ℕ} {l : List ℕ} → low ≤ k → Ascending k low l → Ascending (suc k) low (l ++ (k ∷ n ∷ c ∷ []))
  at_end f end = row f (omega arith) end
  at_end f (row g b more) = row g (omega arith) (at_end (omega arith) more)

  counts_end : {low : ℕ} {l : List ℕ} → Ascending k low l → counts_of (l ++ (k ∷ n ∷ c ∷ [])) ≡ counts_of l + c
  unfolding counts_of
  counts_end end = omega arith
  counts_end (row g b more) = omega (arith, counts_end more)

  in_end : {low : ℕ} {l : List ℕ} → Ascending k low l → RowIn k n c (l ++ (k ∷ n ∷ c ∷ []))
  in_end end = here
  in_end (row f b more) = later (in_end more)

  -- which of the two it is in
  by_end : {low h m d : ℕ} {l : List ℕ} → Ascending k low l → RowIn h m d (l ++ (k ∷ n ∷ c ∷ []))
      → RowIn h m d l ⊎ ((h ≡ k) × (m ≡ n) × (d ≡ c))
  by_end end here = inr (refl, refl, refl)
  by_end {h = h} {m = m} {d = d} (end {low = low}) (later i) = elim i [ ]
  by_end (row f b more) here = inl here
  by_end (row f b more) (later i) = ⊎_elim (λ x. inl (later x)) (λ e. inr e) (by_end more i)

in_front : {k low h n c : ℕ} {l : List ℕ} (more : List ℕ) → Ascending k low l → RowIn h n c l → RowIn h n c (l ++ more)
in_front {k = k} {h = h} {n = n} {c = c} more (end {low = low}) i = elim i [ ]
in_front more (row f b rest) here = here
in_front more (row f b rest) (later i) = later (in_front more rest i)

-- ---- the row of a height after those below it
module _ (k : ℕ) (l : List ℕ) (A : Ascending k 0 l) where
  row_ascends : (ns : List ℕ) → Ascending (suc k) 0 (l ++ row_of k ns)
  unfolding row_of
  row_ascends [] = rw append-nil (wider A)
  row_ascends (n ∷ ns) = at_end k n (suc (length ns)) (omega arith) A

  row_counts : (ns : List ℕ) → counts_of (l ++ row_of k ns) ≡ counts_of l + length ns
  unfolding row_of
  row_counts [] = rw append-nil (omega arith)
  row_counts (n ∷ ns) = counts_end k n (suc (length ns)) A

  row_by : {h m d : ℕ} (ns : List ℕ) → RowIn h m d (l ++ row_of k ns)
      → RowIn h m d l ⊎ ((h ≡ k) × (row_of k ns ≡ k ∷ m ∷ d ∷ []))
  unfolding row_of
  row_by [] i = inl (rw append-nil at i)
  row_by (n ∷ ns) i =
      ⊎_elim (λ x. inl x) (λ e. inr (e.0, rw (e.1, e.2) refl)) (by_end k n (suc (length ns)) A i)

-- ---- the heights below k
below_ascends : (ns : List ℕ) (k : ℕ) → Ascending k 0 (rows_below k ns)
unfolding rows_below
below_ascends ns zero = end
below_ascends ns (suc k) = row_ascends k (rows_below k ns) (below_ascends ns k) (with_height k ns)

pub ascending : (a b : ℕ) → Ascending (suc (tallest (from_to a b))) 0 (census a b)
unfolding census rows_of
ascending a b = below_ascends (from_to a b) (suc (tallest (from_to a b)))

-- how many indices have a height below k
few : ℕ → List ℕ → ℕ
few k [] = 0
few k (n ∷ ns) = cond (ltb (height 1 n) k) 1 0 + few k ns

few-none : (ns : List ℕ) → few 0 ns ≡ 0
unfolding few
few-none [] = refl
few-none (n ∷ ns) = rw (le-ltb (height 1 n) 0 (omega arith)) (omega (arith, few-none ns))

few_more : (k : ℕ) (ns : List ℕ) → few (suc k) ns ≡ few k ns + length (with_height k ns)
unfolding with_height few
few_more k [] = refl
few_more k (n ∷ ns) = go (eqb (height 1 n) k) refl (few_more k ns)
  where
    go : (x : Bool) → eqb (height 1 n) k ≡ x → few (suc k) ns ≡ few k ns + length (with_height k ns)
        → cond (ltb (height 1 n) (suc k)) 1 0 + few (suc k) ns
        ≡ cond (ltb (height 1 n) k) 1 0 + few k ns + length (cond x (n ∷ with_height k ns) (with_height k ns))
    go true e h =
        let is = eqb-true (height 1 n) k e in
        rw (lt-ltb (height 1 n) (suc k) (omega arith), le-ltb (height 1 n) k (omega arith)) (omega (arith, h))
    go false e h = same (ltb (height 1 n) k) refl
      where
        same : (y : Bool) → ltb (height 1 n) k ≡ y → cond (ltb (height 1 n) (suc k)) 1 0 + few (suc k) ns
            ≡ cond y 1 0 + few k ns + length (with_height k ns)
        same true l = rw (lt-ltb (height 1 n) (suc k) (omega (arith, ltb-true (height 1 n) k l))) (omega (arith, h))
        same false l =
            let not = eqb-false (height 1 n) k e in
            rw (le-ltb (height 1 n) (suc k) (omega (arith, ltb-false (height 1 n) k l, not))) (omega (arith, h))

few-all : (k : ℕ) (ns : List ℕ) → tallest ns < k → few k ns ≡ length ns
unfolding tallest few
few-all k [] l = refl
few-all k (n ∷ ns) l =
    let first = NatL.le-max_left (height 1 n) (tallest ns) in
    let rest = NatL.le-max_right (height 1 n) (tallest ns) in
    rw (lt-ltb (height 1 n) k (omega (arith, first))) (omega (arith, few-all k ns (omega (arith, rest))))

counts_below : (ns : List ℕ) (k : ℕ) → counts_of (rows_below k ns) ≡ few k ns
unfolding rows_below counts_of
counts_below ns zero = sym (few-none ns)
counts_below ns (suc k) =
    row_counts k (rows_below k ns) (below_ascends ns k) (with_height k ns)
    ∙ (ap (λ x. x + length (with_height k ns)) (counts_below ns k) ∙ sym (few_more k ns))

pub length-indices : (a k : ℕ) → length (indices a k) ≡ k
unfolding indices
length-indices a zero = refl
length-indices a (suc k) = ap suc (length-indices (suc a) k)

pub counts_add_up : (a b : ℕ) → a ≤ b → counts_of (census a b) ≡ b - a + 1
unfolding census rows_of from_to
counts_add_up a b l =
    let ns = indices a (suc b - a) in
    counts_below ns (suc (tallest ns))
    ∙ (few-all (suc (tallest ns)) ns (omega arith) ∙ (length-indices a (suc b - a) ∙ omega arith))

-- ---- what a row says
-- the smallest of some indices from a on that has a height
pub record Smallest (h a n : ℕ) : Type 0 where
  pub has : height 1 n ≡ h
  pub from : a ≤ n
  pub least : (m : ℕ) → a ≤ m → m < n → height 1 m ≢ h

first_with : (h a k n : ℕ) (rest : List ℕ) → with_height h (indices a k) ≡ n ∷ rest → Smallest h a n × (n < a + k)
unfolding with_height indices
first_with h a zero n rest e = absurd (omega (arith, ap length e))
first_with h a (suc k) n rest e = go (eqb (height 1 a) h) refl e (first_with h (suc a) k n rest)
  where
    go : (x : Bool) → eqb (height 1 a) h ≡ x
        → cond x (a ∷ with_height h (indices (suc a) k)) (with_height h (indices (suc a) k)) ≡ n ∷ rest
        → (with_height h (indices (suc a) k) ≡ n ∷ rest → Smallest h (suc a) n × (n < suc a + k))
        → Smallest h a n × (n < a + suc k)
    go true t e next =
        let same : a ≡ n = ap (λ l. get_or l 0 0) e in (
          record {
            has = ap (height 1) (sym same) ∙ eqb-true (height 1 a) h t;
            from = omega arith;
            least = λ m f b. absurd (omega arith);
          },
          omega arith,
        )
    go false t e next =
        let s = next e in (
          record {
            has = s.0.has;
            from = omega (arith, s.0.from);
            least = λ m f b. ⊎_elim (λ (x : a ≡ m). λ y. eqb-false (height 1 a) h t (ap (height 1) x ∙ y))
                (λ l. s.0.least m l b) (NatL.eq-or-lt_of_le f);
          },
          omega (arith, s.1),
        )

-- a row: its height is that of its smallest index, and it has the number of the indices of that height
pub record Means (a b h n c : ℕ) : Type 0 where
  pub smallest : Smallest h a n
  pub to : n ≤ b
  pub many : c ≡ length (with_height h (from_to a b))

row_below : (ns : List ℕ) (k h n c : ℕ) → RowIn h n c (rows_below k ns)
    → row_of h (with_height h ns) ≡ h ∷ n ∷ c ∷ []
unfolding rows_below
row_below ns zero h n c i = elim i [ ]
row_below ns (suc k) h n c i =
    ⊎_elim (row_below ns k h n c) (λ e. ap (λ x. row_of x (with_height x ns)) e.0 ∙ (e.1 ∙ rw e.0 refl))
    (row_by k (rows_below k ns) (below_ascends ns k) (with_height k ns) i)

pub row_means : (a b h n c : ℕ) → RowIn h n c (census a b) → Means a b h n c
unfolding census rows_of from_to row_of
row_means a b h n c i = go (with_height h ns) refl (row_below ns (suc (tallest ns)) h n c i)
  where
    ns : List ℕ
    ns = indices a (suc b - a)

    go : (l : List ℕ) → with_height h ns ≡ l → row_of h l ≡ h ∷ n ∷ c ∷ [] → Means a b h n c
    go [] e r = absurd (omega (arith, ap length r))
    go (m ∷ l) e r =
        let first : m ≡ n = ap (λ x. get_or x 1 0) r in
        let s = first_with h a (suc b - a) n l (e ∙ ap (λ x. x ∷ l) first) in
        record { smallest = s.0; to = omega (arith, s.1); many = sym (ap (λ x. get_or x 2 0) r) ∙ sym (ap length e) }

-- ---- every height that occurs
occurs : (a k n : ℕ) → a ≤ n → n < a + k → 0 < length (with_height (height 1 n) (indices a k))
unfolding with_height indices
occurs a zero n f l = absurd (omega arith)
occurs a (suc k) n f l = go (eqb (height 1 a) (height 1 n)) refl (occurs (suc a) k n)
  where
    go : (x : Bool) → eqb (height 1 a) (height 1 n) ≡ x
        → (suc a ≤ n → n < suc a + k → 0 < length (with_height (height 1 n) (indices (suc a) k)))
        → 0 < length (cond x (a ∷ with_height (height 1 n) (indices (suc a) k))
        (with_height (height 1 n) (indices (suc a) k)))
    go true t next = omega arith
    go false t next =
        ⊎_elim (λ (x : a ≡ n). absurd (eqb-false (height 1 a) (height 1 n) t (ap (height 1) x)))
        (λ m. next m (omega arith)) (NatL.eq-or-lt_of_le f)

most : (a k n : ℕ) → a ≤ n → n < a + k → height 1 n ≤ tallest (indices a k)
unfolding tallest indices
most a zero n f l = absurd (omega arith)
most a (suc k) n f l =
    ⊎_elim (λ (x : a ≡ n). NatL.le_trans (NatL.le_of_eq (ap (height 1) (sym x)))
    (NatL.le-max_left (height 1 a) (tallest (indices (suc a) k))))
    (λ m. NatL.le_trans (most (suc a) k n m (omega arith))
    (NatL.le-max_right (height 1 a) (tallest (indices (suc a) k))))
    (NatL.eq-or-lt_of_le f)

-- a height has a row, with some index and some number
pub record HasRow (h : ℕ) (rows : List ℕ) : Type 0 where
  pub n : ℕ
  pub c : ℕ
  pub is : RowIn h n c rows

has_front : (k h : ℕ) (l more : List ℕ) → Ascending k 0 l → HasRow h l → HasRow h (l ++ more)
has_front k h l more A r = record { n = r.n; c = r.c; is = in_front more A r.is }

has_end : (k : ℕ) (l : List ℕ) → Ascending k 0 l → (ns : List ℕ) → 0 < length ns → HasRow k (l ++ row_of k ns)
unfolding row_of
has_end k l A [] some = absurd (omega arith)
has_end k l A (n ∷ ns) some = record { n = n; c = suc (length ns); is = in_end k n (suc (length ns)) A }

has_below : (ns : List ℕ) (h k : ℕ) → 0 < length (with_height h ns) → h < k → HasRow h (rows_below k ns)
unfolding rows_below
has_below ns h zero some l = absurd (omega arith)
has_below ns h (suc k) some l =
    ⊎_elim
    (λ (e : suc h ≡ suc k).
    let same : k ≡ h = omega arith in
    subst (λ x. HasRow x (rows_below k ns ++ row_of k (with_height k ns))) same
    (has_end k (rows_below k ns) (below_ascends ns k) (with_height k ns) (rw same some)))
    (λ m. has_front k h (rows_below k ns) (row_of k (with_height k ns)) (below_ascends ns k)
    (has_below ns h k some (omega arith)))
    (NatL.eq-or-lt_of_le l)

pub height_has_row : (a b n : ℕ) → a ≤ n → n ≤ b → HasRow (height 1 n) (census a b)
unfolding census rows_of from_to
height_has_row a b n f l =
    let ns = indices a (suc b - a) in
    has_below ns (height 1 n) (suc (tallest ns)) (occurs a (suc b - a) n f (omega arith))
    (omega (arith, most a (suc b - a) n f (omega arith)))

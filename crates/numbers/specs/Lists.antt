-- The list of those of 1, .., k that have a property: its length is their count, its members are they, it ascends, and
-- its first entries are the list up to a smaller bound. Also the sum over such a list.
use Prim.Native.Nat.{ℕ, zero, suc, ◌+◌, ◌*◌, ◌-◌, ◌≤◌, ◌<◌}
use Rattle.std.specs.Prelude.{◌≡◌, refl, Bool, true, false, ◌⊎◌, length, get_or, take}
use Rattle.std.proofs.Common.{sym, ap₂, ◌∙◌, inl, inr, ⊎_elim, add-zero, add-suc, add-sub_of_le, add_assoc, zero-add, arith, length-append, take_all, get_or-take}
use Rattle.std.proofs.Math.Path.{ap}
use Rattle.std.proofs.Math.Bool.{cond}
use mathlib.Core.List.Memᴰ
use mathlib.Core.List.{List, [], ◌∷◌, ◌++◌, map, append-nil, map-append, Memᴰ}
use Rattle.std.proofs.Math.Nat.{le-suc_iff}
use Rattle.std.proofs.Math.Decide.{dec_lt}
use Rattle.std.proofs.Math.ListN.{get_or-append}
use Rattle.std.proofs.lemmas.List.{get_or_at, take-append-le}
use Rattle.definitions.specs.Numbers.{count_to, list_to}
use Rattle.definitions.specs.KeptHalf.{sum_of}
use Rattle.numbers.specs.Tests.{not_both}
use Rattle.numbers.specs.Folds.{fold_to, only, fold-zero, fold-suc}
use Rattle.numbers.specs.Counts.{sums, count-zero, count_yes, count_no, count_up}

-- induction on k: suc k is listed, at the end, or is not
pub by-listed :
    (q : ℕ → Bool) (C : ℕ → List ℕ → Type 0)
    → C 0 []
    → ((k : ℕ) → q (suc k) ≡ true → C k (list_to k q) → C (suc k) (list_to k q ++ (suc k ∷ [])))
    → ((k : ℕ) → q (suc k) ≡ false → C k (list_to k q) → C (suc k) (list_to k q))
    → (k : ℕ)
    → C k (list_to k q)
unfolding list_to
by-listed q C z y n zero = z
by-listed q C z y n (suc k) = go (q (suc k)) refl (by-listed q C z y n k)
  where
    go : (b : Bool) → q (suc k) ≡ b → C k (list_to k q) → C (suc k) (list_to k q ++ cond b (suc k ∷ []) [])
    go true e h = y k e h
    go false e h = rw (append-nil (list_to k q)) (n k e h)

-- an entry of a list with one more at its end
abbrev Snoc : List ℕ → ℕ → ℕ → Type 0
Snoc l x i =
    ((i < length l) × (get_or (l ++ (x ∷ [])) i 0 ≡ get_or l i 0)) ⊎ ((i ≡ length l) × (get_or (l ++ (x ∷ [])) i 0 ≡ x))

snoc_at : (l : List ℕ) (x i : ℕ) → i < length (l ++ (x ∷ [])) → Snoc l x i
snoc_at l x i u = go (dec_lt i (length l))
  where
    go : Dec (i < length l) → Snoc l x i
    go (yes h) = inl (h, get_or-append l (x ∷ []) 0 i h)
    go (no h) =
        let end : i ≡ length l = omega (arith, rw (length-append l (x ∷ [])) at u) in
        inr (end, get_or_at l x [] 0 i (sym end))

pub sum-append : (a b : List ℕ) → sum_of (a ++ b) ≡ sum_of a + sum_of b
unfolding sum_of
sum-append [] b = sym (zero-add (sum_of b))
sum-append (x ∷ a) b = ap (λ s. x + s) (sum-append a b) ∙ sym (add_assoc x (sum_of a) (sum_of b))

-- a sum of terms that are at most b
pub sum_at-most : (f : ℕ → ℕ) (b : ℕ) → ((x : ℕ) → f x ≤ b) → (l : List ℕ) → sum_of (map f l) ≤ length l * b
unfolding sum_of
sum_at-most f b h [] = omega arith
sum_at-most f b h (x ∷ l) = omega (arith, h x, sum_at-most f b h l)

pub list_same :
    {q s : ℕ → Bool} (k : ℕ) → ((d : ℕ) → 0 < d → d ≤ k → q d ≡ s d) → list_to k q ≡ list_to k s
unfolding list_to
list_same zero e = refl
list_same (suc k) e =
    ap₂ (λ l b. l ++ cond b (suc k ∷ []) []) (list_same k (λ d a b. e d a (omega arith)))
    (e (suc k) (omega arith) (omega arith))

module _ (q : ℕ → Bool) where
  pub list_yes : (k : ℕ) → q (suc k) ≡ true → list_to (suc k) q ≡ list_to k q ++ (suc k ∷ [])
  unfolding list_to
  list_yes k e = ap (λ b. list_to k q ++ cond b (suc k ∷ []) []) e

  pub list_no : (k : ℕ) → q (suc k) ≡ false → list_to (suc k) q ≡ list_to k q
  unfolding list_to
  list_no k e = ap (λ b. list_to k q ++ cond b (suc k ∷ []) []) e ∙ append-nil (list_to k q)

  pub list_length : (k : ℕ) → length (list_to k q) ≡ count_to k q
  list_length =
      by-listed q (λ k l. length l ≡ count_to k q) (sym (count-zero q))
      (λ k e ih. rw (count_yes q k e) (length-append (list_to k q) (suc k ∷ []) ∙ ap (λ x. x + 1) ih))
      (λ k e ih. rw (count_no q k e) ih)

  -- a list goes no further where no number more has the property
  list-further-add :
      (m j : ℕ) → ((d : ℕ) → m < d → d ≤ m + j → q d ≡ false) → list_to (m + j) q ≡ list_to m q
  list-further-add m zero e = ap (λ x. list_to x q) (add-zero m)
  list-further-add m (suc j) e =
      ap (λ x. list_to x q) (add-suc m j)
      ∙ (list_no (m + j) (e (suc (m + j)) (omega arith) (omega arith))
      ∙ list-further-add m j (λ d a b. e d a (omega arith)))

  pub list_further : (m k : ℕ) → m ≤ k → ((d : ℕ) → m < d → d ≤ k → q d ≡ false) → list_to k q ≡ list_to m q
  list_further m k l e =
      rw (add-sub_of_le l) at (list-further-add m (k - m) (λ d a b. e d a (rw (add-sub_of_le l) at b)))

  -- a number of 1, .., k that has the property
  abbrev Has : ℕ → ℕ → Type 0
  Has k x = (0 < x) × (x ≤ k) × (q x ≡ true)

  wider : (k x : ℕ) → Has k x → Has (suc k) x
  wider k x h = (h.0, omega (arith, h.1), h.2)

  the_last : (k x : ℕ) → q (suc k) ≡ true → x ≡ suc k → Has (suc k) x
  the_last k x e h = (omega arith, omega arith, rw h e)

  -- the members are these numbers
  pub member_has : (k x : ℕ) → Memᴰ x (list_to k q) → (0 < x) × (x ≤ k) × (q x ≡ true)
  member_has k x =
      by-listed q (λ j l. Memᴰ x l → Has j x) (λ m. absurd (Memᴰ.not-nil m))
      (λ j e ih m. ⊎_elim (λ h. wider j x (ih h)) (λ h. the_last j x e (Memᴰ.eq_of_singleton h))
      (Memᴰ.append_cases (list_to j q) m))
      (λ j e ih m. wider j x (ih m)) k

  pub has_member : (k x : ℕ) → (0 < x) × (x ≤ k) × (q x ≡ true) → Memᴰ x (list_to k q)
  has_member k x =
      by-listed q (λ j l. Has j x → Memᴰ x l) (λ h. absurd (omega (arith, h.0, h.1)))
      (λ j e ih h. ⊎_elim (λ u. Memᴰ.append_left (suc j ∷ []) (ih (h.0, u, h.2)))
      (λ u. Memᴰ.append_right (list_to j q) (Memᴰ.head u)) (le-suc_iff.0 h.1))
      (λ j e ih h. ⊎_elim (λ u. ih (h.0, u, h.2)) (λ u. absurd (not_both h.2 (rw u e))) (le-suc_iff.0 h.1)) k

  -- the same by places, and the order
  pub entry_has :
      (k i : ℕ)
      → i < length (list_to k q)
      → (0 < get_or (list_to k q) i 0) × (get_or (list_to k q) i 0 ≤ k) × (q (get_or (list_to k q) i 0) ≡ true)
  entry_has k i =
      by-listed q (λ j l. i < length l → Has j (get_or l i 0)) (λ u. absurd (omega arith))
      (λ j e ih u. ⊎_elim (λ h. rw h.1 (wider j _ (ih h.0))) (λ h. the_last j _ e h.1)
      (snoc_at (list_to j q) (suc j) i u))
      (λ j e ih u. wider j _ (ih u)) k

  pub ascends :
      (k i j : ℕ) → i < j → j < length (list_to k q) → get_or (list_to k q) i 0 < get_or (list_to k q) j 0
  ascends k i j u =
      by-listed q (λ m l. j < length l → get_or l i 0 < get_or l j 0) (λ v. absurd (omega arith)) at_end
      (λ m e ih v. ih v) k
    where
      at_end :
          (m : ℕ)
          → q (suc m) ≡ true
          → (j < length (list_to m q) → get_or (list_to m q) i 0 < get_or (list_to m q) j 0)
          → j < length (list_to m q ++ (suc m ∷ []))
          → get_or (list_to m q ++ (suc m ∷ [])) i 0 < get_or (list_to m q ++ (suc m ∷ [])) j 0
      at_end m e ih v =
          let before : i < length (list_to m q) = omega (arith, rw (length-append (list_to m q) (suc m ∷ [])) at v) in
          rw (get_or-append (list_to m q) (suc m ∷ []) 0 i before)
          (⊎_elim (λ h. rw h.1 (ih h.0)) (λ h. rw h.1 (omega (arith, (entry_has m i before).1)))
          (snoc_at (list_to m q) (suc m) j v))

  -- a list to a smaller bound is the start of it, and next stands the next number that has the property
  list_take-add : (m j : ℕ) → take (count_to m q) (list_to (m + j) q) ≡ list_to m q
  unfolding list_to
  list_take-add m zero = rw (add-zero m) (take_all (count_to m q) (list_to m q) (omega (arith, list_length m)))
  list_take-add m (suc j) =
      rw (add-suc m j)
      (take-append-le (count_to m q) (list_to (m + j) q) _ (omega (arith, list_length (m + j), count_up q m j))
      ∙ list_take-add m j)

  pub list_take : (m k : ℕ) → m ≤ k → take (count_to m q) (list_to k q) ≡ list_to m q
  list_take m k u = rw (add-sub_of_le u) at (list_take-add m (k - m))

  pub list_next : (m k : ℕ) → m < k → q (suc m) ≡ true → get_or (list_to k q) (count_to m q) 0 ≡ suc m
  list_next m k u e =
      sym (get_or-take (count_to (suc m) q) (list_to k q) (count_to m q) 0 (omega (arith, count_yes q m e)))
      ∙ (ap (λ l. get_or l (count_to m q) 0) (list_take (suc m) k u ∙ list_yes m e)
      ∙ get_or_at (list_to m q) (suc m) [] 0 (count_to m q) (list_length m))

  -- as many stand up to the entry at place i as its place tells
  pub list_count : (k i : ℕ) → i < length (list_to k q) → count_to (get_or (list_to k q) i 0) q ≡ suc i
  list_count k i =
      by-listed q (λ j l. i < length l → count_to (get_or l i 0) q ≡ suc i) (λ u. absurd (omega arith))
      (λ j e ih u. ⊎_elim (λ h. rw h.1 (ih h.0))
      (λ h. rw h.1 (omega (arith, count_yes q j e, list_length j, h.0))) (snoc_at (list_to j q) (suc j) i u))
      (λ j e ih u. ih u) k

  pub list_sum : (f : ℕ → ℕ) (k : ℕ) → sum_of (map f (list_to k q)) ≡ fold_to sums (only sums q f) k
  unfolding sum_of
  list_sum f =
      by-listed q (λ k l. sum_of (map f l) ≡ fold_to sums (only sums q f) k) (sym (fold-zero sums (only sums q f)))
      (λ k e ih. rw (
        fold-suc sums (only sums q f) k,
        e,
        map-append f (list_to k q) (suc k ∷ []),
        sum-append (map f (list_to k q)) (f (suc k) ∷ []),
      ) (omega arith))
      (λ k e ih. rw (fold-suc sums (only sums q f) k, e, add-zero) ih)

-- Halves as laws of lists, over the sign: where the halves match, the first one rebuilds the whole (`rebuilt-half`);
-- what is rebuilt has that first half (`half-rebuilt`), its height (`height-rebuilt`), and halves that match but for a
-- middle that is no image of itself (`rebuilt-uneven`).
use Prim.Native.Nat.{ℕ, zero, suc, ◌-◌, ◌/◌, ◌%◌, ◌≤◌, ◌<◌}
use Rattle.std.specs.Prelude.{◌≡◌, Bool, cond, ◌&&◌, ◌||◌, List, [], ◌∷◌, get_or, take, ltb, ℤ, pos, negsuc}
use Rattle.std.proofs.Math.Path.{refl, sym}
use Rattle.std.proofs.Common.{ap, ◌∙◌, true≢false, arith, eqb-true, lt-ltb, le-ltb, ext_get_or, get_or-take}
use Rattle.std.proofs.Math.Bool.{true, false, not}
use Rattle.std.proofs.Math.Decide.{ℕ_discrete, dec_lt}
use Rattle.std.proofs.Math.Nat.{le_antisymm}
use Rattle.std.proofs.lemmas.Bool.{eqb-false}
use Rattle.std.proofs.Math.ListN.{length}
use Rattle.std.proofs.Math.Seq.{length-take-le}
use Rattle.std.proofs.Math.Dec.{eqb}
use Rattle.std.proofs.Math.IntN.{nat_abs}
use Rattle.definitions.specs.Integers.{⊖, ◌⊝◌, ◌⊕◌, 0ℤ}
use Rattle.definitions.specs.Series.{Series}
use Rattle.definitions.specs.Steps.{entries}
use Rattle.definitions.specs.Answer.{height_of}
use Rattle.definitions.specs.Halves.{half_of, first_half, image, mirrored_up, rebuilt, differ, uneven_to, uneven}
use Rattle.definitions.specs.Halves.{middle_wrong}
use Rattle.integers.specs.Solver.{:0, ◌:+◌, :-, x}
use Rattle.integers.specs.Whole.{ringℤ, ⊖-zero}
use Rattle.step_laws.specs.Firsts.{length-firsts, firsts_here, firsts-entries, firsts_same}
use Rattle.step_laws.specs.Signed.{sub-add, abs_⊖}
use Rattle.cyclotomic.specs.Heights.{entry_height, height_least}

-- images
pub image-image : (negate : Bool) (c : ℤ) → image negate (image negate c) ≡ c
image-image true c = ringℤ (c ∷ []) (:- (:- x)) x refl
image-image false c = refl

pub abs_image : (negate : Bool) (c : ℤ) → nat_abs (image negate c) ≡ nat_abs c
abs_image true c = abs_⊖ c
abs_image false c = refl

zero_abs : (c : ℤ) → nat_abs c ≡ 0 → c ≡ 0ℤ
zero_abs (pos n) e = ap pos e
zero_abs (negsuc n) e = absurd (omega arith)

-- a number is its own negative where it is 0
own_negative : (c : ℤ) → c ≡ ⊖ c → c ≡ 0ℤ
unfolding ⊖
own_negative (pos zero) e = refl
own_negative (pos (suc n)) e = let z : ◌≡◌ {A = ℕ} 0 1 = cc in absurd (omega arith)
own_negative (negsuc n) e = let z : ◌≡◌ {A = ℕ} 0 1 = cc in absurd (omega arith)

-- what differs
pub same_differ : (a b : ℤ) → a ≡ b → differ a b ≡ false
unfolding differ
same_differ a b e = rw (e, ringℤ (b ∷ []) (x :+ :- x) :0 refl)

pub differ_same : (a b : ℤ) → differ a b ≡ false → a ≡ b
unfolding differ
differ_same a b e =
    let d : a ⊝ b ≡ 0ℤ = zero_abs (a ⊝ b) (eqb-true (nat_abs (a ⊝ b)) 0 (go (eqb (nat_abs (a ⊝ b)) 0) e)) in
    sym (sub-add a b) ∙ ap (λ (v : ℤ). v ⊕ b) d ∙ ringℤ (b ∷ []) (:0 :+ x) x refl
  where
    go : (t : Bool) → not t ≡ false → t ≡ true
    go true e = refl
    go false e = absurd (true≢false e)

-- the halves match where each entry of the first has its image in the other
or-false : (a b : Bool) → (a || b) ≡ false → (a ≡ false) × (b ≡ false)
or-false true b e = absurd (true≢false e)
or-false false b e = (refl, e)

abbrev pub Matches : Bool → List ℤ → ℕ → Type 0
Matches negate cs i = entries cs (length cs - 1 - i) ≡ image negate (entries cs i)

module _ (negate : Bool) (cs : List ℤ) where
  all_to : (k : ℕ) → ((i : ℕ) → i < k → Matches negate cs i) → uneven_to k negate cs ≡ false
  unfolding uneven_to
  all_to zero h = refl
  all_to (suc k) h = rw (all_to k (λ i l. h i (omega arith)), same_differ _ _ (h k (omega arith)))

  each_to : (k : ℕ) → uneven_to k negate cs ≡ false → (i : ℕ) → i < k → Matches negate cs i
  unfolding uneven_to
  each_to zero e i l = absurd (omega arith)
  each_to (suc k) e i l = go (or-false _ _ e) (ℕ_discrete i k) (each_to k (or-false _ _ e).0 i)
    where
      go : (uneven_to k negate cs ≡ false)
          × (differ (entries cs (length cs - 1 - k)) (image negate (entries cs k)) ≡ false) → Dec (i ≡ k)
          → (i < k → Matches negate cs i) → Matches negate cs i
      go both (yes s) before = rw s (differ_same _ _ both.1)
      go both (no u) before = before (omega arith)

  pub even_all : ((i : ℕ) → i < half_of (length cs) → Matches negate cs i) → uneven negate cs ≡ false
  unfolding uneven
  even_all = all_to (half_of (length cs))

  -- and then each of the other half has its image in the first
  pub even_each : uneven negate cs ≡ false → (i : ℕ) → i < length cs → Matches negate cs i
  unfolding uneven
  even_each e i l = go (dec_lt i (half_of (length cs)))
    where
      n : ℕ
      n = length cs

      first : (k : ℕ) → k < half_of n → Matches negate cs k
      first = each_to (half_of n) e

      go : Dec (i < half_of n) → Matches negate cs i
      go (yes h) = first i h
      go (no h) =
          let back : n - 1 - (n - 1 - i) ≡ i = omega arith in
          sym (ap (image negate) (rw back at (first (n - 1 - i) (omega arith))) ∙ image-image negate _)

  -- so the first half rebuilds the whole
  pub rebuilt-half : uneven negate cs ≡ false → rebuilt negate (length cs) (first_half cs) ≡ cs
  unfolding rebuilt mirrored_up first_half entries
  rebuilt-half e =
      firsts_same (length cs) _ (entries cs) (λ i l. go i l (dec_lt i (half_of (length cs)))) ∙ firsts-entries cs
    where
      n : ℕ
      n = length cs

      go : (i : ℕ) → i < n → Dec (i < half_of n)
          → cond (ltb i (half_of n)) (get_or (take (half_of n) cs) i 0ℤ)
          (image negate (get_or (take (half_of n) cs) (n - 1 - i) 0ℤ))
          ≡ get_or cs i 0ℤ
      go i l (yes h) = rw (lt-ltb i (half_of n) h, get_or-take (half_of n) cs i 0ℤ h)
      go i l (no h) =
          let back : n - 1 - (n - 1 - i) ≡ i = omega arith in
          let m : Matches negate cs (n - 1 - i) = even_each e (n - 1 - i) (omega arith) in
          rw (le-ltb i (half_of n) (omega arith), get_or-take (half_of n) cs (n - 1 - i) 0ℤ (omega arith))
          (sym (rw back at m))

pub length-half : (cs : List ℤ) → length (first_half cs) ≡ half_of (length cs)
unfolding first_half
length-half cs = length-take-le (half_of (length cs)) cs (omega arith)

-- no entry is larger than the height
pub entry_within : (l : List ℤ) (k : ℕ) → k < length l → nat_abs (entries l k) ≤ height_of l
entry_within l k h = rw (firsts-entries l) at (entry_height (length l) (entries l) k h)

-- the mirror looks at the first half alone
pub mirror_same : (negate : Bool) (n : ℕ) (f g : Series) → ((j : ℕ) → j < half_of n → f j ≡ g j)
    → (i : ℕ) → i < n → mirrored_up negate n f i ≡ mirrored_up negate n g i
unfolding mirrored_up
mirror_same negate n f g h i l = go (dec_lt i (half_of n))
  where
    go : Dec (i < half_of n) → cond (ltb i (half_of n)) (f i) (image negate (f (n - 1 - i)))
        ≡ cond (ltb i (half_of n)) (g i) (image negate (g (n - 1 - i)))
    go (yes b) = rw (lt-ltb i (half_of n) b) (h i b)
    go (no b) = rw (le-ltb i (half_of n) (omega arith)) (ap (image negate) (h (n - 1 - i) (omega arith)))

-- what is rebuilt
module _ (negate : Bool) (n : ℕ) (half : List ℤ) where
  pub length-rebuilt : length (rebuilt negate n half) ≡ n
  unfolding rebuilt
  length-rebuilt = length-firsts n _

  first_entry : (i : ℕ) → i < n → i < half_of n → entries (rebuilt negate n half) i ≡ entries half i
  unfolding rebuilt mirrored_up
  first_entry i l h = firsts_here n _ i l ∙ rw (lt-ltb i (half_of n) h)

  pub other_entry : (i : ℕ) → i < n → half_of n ≤ i
      → entries (rebuilt negate n half) i ≡ image negate (entries half (n - 1 - i))
  unfolding rebuilt mirrored_up
  other_entry i l h = firsts_here n _ i l ∙ rw (le-ltb i (half_of n) h)

  module _ (long : length half ≡ half_of n) where
    pub half-rebuilt : first_half (rebuilt negate n half) ≡ half
    unfolding first_half
    half-rebuilt =
        rw length-rebuilt
        (ext_get_or 0ℤ (take (half_of n) (rebuilt negate n half)) half (cut ∙ sym long) (λ i l. go i (omega (arith, cut))))
      where
        cut : length (take (half_of n) (rebuilt negate n half)) ≡ half_of n
        cut = length-take-le (half_of n) (rebuilt negate n half) (rw length-rebuilt (omega arith))

        go : (i : ℕ) → i < half_of n → get_or (take (half_of n) (rebuilt negate n half)) i 0ℤ ≡ get_or half i 0ℤ
        go i h =
            get_or-take (half_of n) (rebuilt negate n half) i 0ℤ h
            ∙ (unfold entries in first_entry i (omega arith) h)

    pub height-rebuilt : height_of (rebuilt negate n half) ≡ height_of half
    unfolding rebuilt mirrored_up
    height-rebuilt = le_antisymm upper lower
      where
        each : (i : ℕ) → i < n → Dec (i < half_of n) → nat_abs (mirrored_up negate n (entries half) i) ≤ height_of half
        each i l (yes h) = rw (lt-ltb i (half_of n) h) (entry_within half i (omega (arith, long)))
        each i l (no h) =
            rw (le-ltb i (half_of n) (omega arith), abs_image negate (entries half (n - 1 - i)))
            (entry_within half (n - 1 - i) (omega (arith, long)))

        upper : height_of (rebuilt negate n half) ≤ height_of half
        upper =
            height_least n (mirrored_up negate n (entries half)) (height_of half)
            (λ i l. each i l (dec_lt i (half_of n)))

        told : (i : ℕ) → i < half_of n → nat_abs (entries half i) ≤ height_of (rebuilt negate n half)
        told i h =
            rw (lt-ltb i (half_of n) h) at (entry_height n (mirrored_up negate n (entries half)) i (omega arith))

        lower : height_of half ≤ height_of (rebuilt negate n half)
        lower =
            rw (firsts-entries half) at (height_least (length half) (entries half) (height_of (rebuilt negate n half))
            (λ i l. told i (omega (arith, long))))

    -- but for the middle each has its image, and the middle where it is its own
    abbrev OwnMiddle : Type 0
    OwnMiddle = (i : ℕ) → i < half_of n → i ≡ n / 2 → n % 2 ≡ 1 → entries half i ≡ image negate (entries half i)

    even_but : OwnMiddle → uneven negate (rebuilt negate n half) ≡ false
    even_but middle =
        even_all negate whole
        (λ i h. rw length-rebuilt (at i (rw length-rebuilt at h) (dec_lt (n - 1 - i) (half_of n))))
      where
        whole : List ℤ
        whole = rebuilt negate n half

        at : (i : ℕ) → i < half_of n → Dec (n - 1 - i < half_of n)
            → entries whole (n - 1 - i) ≡ image negate (entries whole i)
        at i h (yes m) =
            let same : n - 1 - i ≡ i = omega arith in
            rw (same, first_entry i (omega arith) h) (middle i h (omega arith) (omega arith))
        at i h (no m) =
            let back : n - 1 - (n - 1 - i) ≡ i = omega arith in
            rw (other_entry (n - 1 - i) (omega arith) (omega arith), back, first_entry i (omega arith) h)

    middle_own : n % 2 ≡ 1 → uneven negate (rebuilt negate n half) ≡ false
        → entries half (n / 2) ≡ image negate (entries half (n / 2))
    middle_own odd e =
        let here : n - 1 - n / 2 ≡ n / 2 = omega arith in
        let m = even_each negate (rebuilt negate n half) e (n / 2) (rw length-rebuilt (omega arith)) in
        rw (length-rebuilt, here, first_entry (n / 2) (omega arith) (omega arith)) at m

    -- UNEVEN of a half is UNEVEN of what it rebuilds
    pub rebuilt-uneven : uneven negate (rebuilt negate n half) ≡ middle_wrong negate n half
    unfolding middle_wrong
    rebuilt-uneven =
        go (uneven negate (rebuilt negate n half)) refl negate refl (eqb (n % 2) 1) refl
        (eqb (nat_abs (entries half (n / 2))) 0) refl
      where
        go : (u : Bool) → uneven negate (rebuilt negate n half) ≡ u → (b : Bool) → negate ≡ b
            → (o : Bool) → eqb (n % 2) 1 ≡ o → (z : Bool) → eqb (nat_abs (entries half (n / 2))) 0 ≡ z
            → u ≡ (b && o && not z)
        go u eu false eb o eo z ez = sym eu ∙ even_but (λ i h m odd. rw eb)
        go u eu true eb false eo z ez = sym eu ∙ even_but (λ i h m odd. absurd (eqb-false (n % 2) 1 eo odd))
        go u eu true eb true eo true ez =
            let none : entries half (n / 2) ≡ 0ℤ = zero_abs _ (eqb-true _ 0 ez) in
            sym eu ∙ even_but (λ i h m odd. rw (eb, m, none) (sym ⊖-zero))
        go true eu true eb true eo false ez = refl
        go false eu true eb true eo false ez =
            let own : entries half (n / 2) ≡ ⊖ (entries half (n / 2)) =
            rw eb at (middle_own (eqb-true (n % 2) 1 eo) eu) in
            absurd (eqb-false _ 0 ez (ap nat_abs (own_negative _ own)))

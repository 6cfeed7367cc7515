-- The look over the entries of a slice, one after the other, and what it comes to from the start: the height and the
-- peak (`look_all`). And a look that goes from one larger magnitude to the next (`Reached`).
use Prim.Native.Nat.{ℕ, zero, suc, ◌+◌, ◌-◌, ◌<◌, ◌≤◌, max}
use mathlib.Core.Path.{◌≡◌, refl, sym, ◌∙◌, ap, subst}
use mathlib.Core.Bool.{true, cond}
use mathlib.Core.List.{List, [], ◌∷◌}
use native.Mathlib.Omega.{arith}
use native.Mathlib.Nat as NatL
use native.Mathlib.Numerals.{add-one}
use native.Mathlib.Decide.{dec_lt}
use borrow.Author.Tests.{lt-ltb, le-ltb, eq-eqb, ne_eqb}
use lib.ListN.{length, get_or, drop, drop_of_length-le}
use lib.Seq.{drop-cons}
use lib.Dec.{ltb}
use lib.IntN.{ℤ, pos, nat_abs}
use Rattle.definitions.specs.Answer.{height_of, place_of, peak_of}
use Rattle.heights.specs.Above.{NoneAbove, NextAbove}
use Rattle.heights.specs.declared.Top.{Top}

-- what a look comes to from place i on, where the largest magnitude so far is h and was met at place p first
pub look : ℕ → ℕ → ℕ → List ℤ → Top
look h p i [] = record { height = h; place = p }
look h p i (c ∷ cs) = cond (ltb h (nat_abs c)) (look (nat_abs c) i (suc i) cs) (look h p (suc i) cs)

-- the height of what is left, by its first entry and the others
pub height-left : (cs : List ℤ) (i : ℕ) → i < length cs →
    height_of (drop i cs) ≡ max (nat_abs (get_or cs i (pos 0))) (height_of (drop (i + 1) cs))
unfolding height_of
height-left cs i l = rw (drop-cons cs i (pos 0), add-one)

-- an entry that is passed over, and one that is the largest so far
module _ (cs : List ℤ) (i h p : ℕ) (l : i < length cs) where
  look_passed : nat_abs (get_or cs i (pos 0)) ≤ h → look h p (i + 1) (drop (i + 1) cs) ≡ look h p i (drop i cs)
  unfolding look
  look_passed m = rw (drop-cons cs i (pos 0), add-one, le-ltb h (nat_abs (get_or cs i (pos 0))) m) refl

  look_found : h < nat_abs (get_or cs i (pos 0))
      → look (nat_abs (get_or cs i (pos 0))) i (i + 1) (drop (i + 1) cs) ≡ look h p i (drop i cs)
  unfolding look
  look_found m = rw (drop-cons cs i (pos 0), add-one, lt-ltb h (nat_abs (get_or cs i (pos 0))) m) refl

-- the peak is the first entry, or that of the others
module _ (c : ℤ) (cs : List ℤ) where
  peak_here : height_of cs ≤ nat_abs c → peak_of (c ∷ cs) ≡ 0
  unfolding peak_of place_of height_of
  peak_here l = rw (eq-eqb (nat_abs c) (max (nat_abs c) (height_of cs)) (omega arith)) refl

  peak_later : nat_abs c < height_of cs → peak_of (c ∷ cs) ≡ suc (peak_of cs)
  unfolding peak_of place_of height_of
  peak_later l =
      let e : height_of (c ∷ cs) ≡ height_of cs = omega arith in
      subst (λ (h : ℕ). place_of h (c ∷ cs) ≡ suc (peak_of cs)) (sym e)
      (rw (ne_eqb (nat_abs c) (height_of cs) (λ q. omega arith)) refl)

-- what is left is taller, and then the peak is there, or it is not
abbrev Comes : ℕ → ℕ → ℕ → List ℤ → Top
Comes h p i cs = record { height = max h (height_of cs); place = cond (ltb h (height_of cs)) (i + peak_of cs) p }

same : {x y x' y' : ℕ} → x ≡ x' → y ≡ y'
    → ◌≡◌ {A = Top} (record { height = x; place = y }) (record { height = x'; place = y' })
same p q i = record { height = p i; place = q i }

module _ (h p i : ℕ) (c : ℤ) (cs : List ℤ) where
  found : h < nat_abs c → Comes (nat_abs c) i (suc i) cs ≡ Comes h p i (c ∷ cs)
  unfolding height_of
  found a = same (omega arith) (go (dec_lt (nat_abs c) (height_of cs)))
    where
      taller : ltb h (max (nat_abs c) (height_of cs)) ≡ true
      taller = lt-ltb h (max (nat_abs c) (height_of cs)) (omega arith)

      go : Dec (nat_abs c < height_of cs) → cond (ltb (nat_abs c) (height_of cs)) (suc i + peak_of cs) i
          ≡ cond (ltb h (max (nat_abs c) (height_of cs))) (i + peak_of (c ∷ cs)) p
      go (yes l) = rw (taller, lt-ltb (nat_abs c) (height_of cs) l, peak_later c cs l) (omega arith)
      go (no l) =
          let m : height_of cs ≤ nat_abs c = omega (arith, NatL.lt_of_not-le l) in
          rw (taller, le-ltb (nat_abs c) (height_of cs) m, peak_here c cs m) (omega arith)

  passed : nat_abs c ≤ h → Comes h p (suc i) cs ≡ Comes h p i (c ∷ cs)
  unfolding height_of
  passed a = same (omega arith) (go (dec_lt h (height_of cs)))
    where
      go : Dec (h < height_of cs) → cond (ltb h (height_of cs)) (suc i + peak_of cs) p
          ≡ cond (ltb h (max (nat_abs c) (height_of cs))) (i + peak_of (c ∷ cs)) p
      go (yes l) =
          rw (
            lt-ltb h (height_of cs) l,
            lt-ltb h (max (nat_abs c) (height_of cs)) (omega arith),
            peak_later c cs (omega arith),
          )
          (omega arith)
      go (no l) =
          let m : height_of cs ≤ h = omega (arith, NatL.lt_of_not-le l) in
          rw (le-ltb h (height_of cs) m, le-ltb h (max (nat_abs c) (height_of cs)) (omega arith)) refl

looked : (h p i : ℕ) (cs : List ℤ) → look h p i cs ≡ Comes h p i cs
unfolding look height_of
looked h p i [] = same (omega arith) (ap (λ b. cond b (i + peak_of []) p) (sym (le-ltb h 0 (omega arith))))
looked h p i (c ∷ cs) = go (dec_lt h (nat_abs c)) (looked (nat_abs c) i (suc i) cs) (looked h p (suc i) cs)
  where
    go : Dec (h < nat_abs c) → look (nat_abs c) i (suc i) cs ≡ Comes (nat_abs c) i (suc i) cs
        → look h p (suc i) cs ≡ Comes h p (suc i) cs
        → cond (ltb h (nat_abs c)) (look (nat_abs c) i (suc i) cs) (look h p (suc i) cs) ≡ Comes h p i (c ∷ cs)
    go (yes a) f g = rw (lt-ltb h (nat_abs c) a) (f ∙ found h p i c cs a)
    go (no a) f g =
        let m : nat_abs c ≤ h = omega (arith, NatL.lt_of_not-le a) in
        rw (le-ltb h (nat_abs c) m) (g ∙ passed h p i c cs m)

-- all of it
no_peak : (cs : List ℤ) → height_of cs ≡ 0 → peak_of cs ≡ 0
unfolding peak_of place_of height_of
no_peak [] e = refl
no_peak (c ∷ cs) e = peak_here c cs (omega arith)

look_all : (cs : List ℤ) → look 0 0 0 cs ≡ record { height = height_of cs; place = peak_of cs }
look_all cs = looked 0 0 0 cs ∙ same (omega arith) (go (dec_lt 0 (height_of cs)))
  where
    go : Dec (0 < height_of cs) → cond (ltb 0 (height_of cs)) (0 + peak_of cs) 0 ≡ peak_of cs
    go (yes l) = rw (lt-ltb 0 (height_of cs) l) (omega arith)
    go (no l) = let e : height_of cs ≡ 0 = omega arith in rw (le-ltb 0 (height_of cs) (omega arith)) (sym (no_peak cs e))

-- entries that are passed over
look_over : (cs : List ℤ) (h p i n : ℕ) → i + n ≤ length cs → NoneAbove h cs i (i + n)
    → look h p (i + n) (drop (i + n) cs) ≡ look h p i (drop i cs)
look_over cs h p i zero l m = ap (λ j. look h p j (drop j cs)) (omega arith)
look_over cs h p i (suc n) l m =
    let e : i + suc n ≡ i + n + 1 = omega arith in
    rw e
    (look_passed cs (i + n) h p (omega arith) (m.low (i + n) (omega arith) (omega arith))
    ∙ look_over cs h p i n (omega arith) (record { low = λ k a b. m.low k a (omega arith) }))

look_next : {cs : List ℤ} {h i r : ℕ} (p : ℕ) → NextAbove h cs i r → look h p r (drop r cs) ≡ look h p i (drop i cs)
look_next {cs} {h} {i} {r} p n =
    let e : i + (r - i) ≡ r = omega (arith, n.later) in
    subst (λ j. look h p j (drop j cs) ≡ look h p i (drop i cs)) e
    (look_over cs h p i (r - i) (omega (arith, n.inside)) (rw e n.passed))

-- none of two parts, the second of which may be one entry
module _ {h : ℕ} {cs : List ℤ} {i j : ℕ} (m : NoneAbove h cs i j) where
  pub none_join : {l : ℕ} → NoneAbove h cs j l → NoneAbove h cs i l
  none_join {l} m' = record { low = λ k a b. go k a b (dec_lt k j) }
    where
      go : (k : ℕ) → i ≤ k → k < l → Dec (k < j) → nat_abs (get_or cs k (pos 0)) ≤ h
      go k a b (yes under) = m.low k a under
      go k a b (no over) = m'.low k (omega (arith, NatL.lt_of_not-le over)) b

  pub none_more : nat_abs (get_or cs j (pos 0)) ≤ h → NoneAbove h cs i (j + 1)
  none_more s =
      let one : NoneAbove h cs j (j + 1) = record {
        low = λ k a b. let e : j ≡ k = omega arith in subst (λ x. nat_abs (get_or cs x (pos 0)) ≤ h) e s;
      } in
      none_join one

-- the next one is the next from further back too
pub next_later : {h : ℕ} {cs : List ℤ} {i j r : ℕ} → i ≤ j → NoneAbove h cs i j → NextAbove h cs j r
    → NextAbove h cs i r
next_later l m n = record {
  later = omega (arith, n.later);
  inside = n.inside;
  passed = none_join m n.passed;
  larger = n.larger;
}

-- and there is one only
module _ {h : ℕ} {cs : List ℤ} {i : ℕ} where
  not-before : {r r' : ℕ} → NextAbove h cs i r → NextAbove h cs i r' → r < r' → ⊥
  not-before {r} n n' l = omega (arith, n.larger (omega (arith, n'.inside)), n'.passed.low r n.later l)

  pub next_one : {r r' : ℕ} → NextAbove h cs i r → NextAbove h cs i r' → r ≡ r'
  next_one {r} {r'} n n' = go (dec_lt r r') (dec_lt r' r)
    where
      go : Dec (r < r') → Dec (r' < r) → r ≡ r'
      go (yes l) d = absurd (not-before n n' l)
      go (no m) (yes l) = absurd (not-before n' n l)
      go (no m) (no l) = omega arith

-- From one larger magnitude to the next: what was found last, at p, is h, and what stands at i is larger, or i is the
-- end.
pub record Reached (cs : List ℤ) (h p i : ℕ) : Type 0 where
  pub comes : look h p i (drop i cs) ≡ look 0 0 0 cs
  pub inside : i ≤ length cs
  pub larger : i < length cs → h < nat_abs (get_or cs i (pos 0))

pub reached_first : {cs : List ℤ} {r : ℕ} → NextAbove 0 cs 0 r → Reached cs 0 0 r
reached_first n = record { comes = look_next 0 n; inside = n.inside; larger = n.larger }

module _ {cs : List ℤ} {h p i : ℕ} (q : Reached cs h p i) where
  pub reached_next : {m r : ℕ} → i < length cs → m ≡ nat_abs (get_or cs i (pos 0)) → NextAbove m cs (i + 1) r
      → Reached cs m i r
  reached_next {m} more e n = record {
    comes =
        look_next i n ∙ ap (λ x. look x i (i + 1) (drop (i + 1) cs)) e ∙ look_found cs i h p more (q.larger more)
        ∙ q.comes;
    inside = n.inside;
    larger = n.larger;
  }

  pub reached_end : length cs ≤ i
      → ◌≡◌ {A = Top} (record { height = h; place = p }) (record { height = height_of cs; place = peak_of cs })
  unfolding look
  reached_end past = sym (ap (look h p i) (drop_of_length-le cs past)) ∙ q.comes ∙ look_all cs

-- The height and the peak for n are those of the kept half for its r, the peak t times as far up (`told-half`), and 1
-- and 0 where r is 1 (`told-one`). Taking n apart moves, negates and repeats coefficients: z^t for z moves them to t
-- times their place (`told-m`); those of F(2r) are those of F(r) up to signs, and I(r) stands in I(2r) twice, the first
-- time in its place (`told_twice`); and those of r are mirrored, so that the first of the tallest is in the lower half
-- (`told-lower`).
use Prim.Native.Nat.{ℕ, zero, suc, ◌+◌, ◌*◌, ◌-◌, ◌/◌, ◌%◌, ◌≤◌, ◌<◌, ◌∣◌, max}
use Rattle.std.specs.Prelude.{◌≡◌, refl, List, Bool, true, false, cond, ◌≢◌, ◌⊎◌, ℤ, eqb}
use Rattle.std.proofs.Common.{sym, ◌∙◌, subst, inl, inr, eq-eqb, ne_eqb}
use Rattle.std.proofs.Math.Path.{ap}
use native.Mathlib.Omega.{arith}
use Rattle.std.proofs.Math.Nat as NatL
use Rattle.std.proofs.Math.Decide.{dec_lt, dec_dvd, ℕ_discrete}
use Rattle.std.proofs.Math.IntN.{nat_abs}
use Rattle.definitions.specs.Integers.{◌⊕◌, ◌⊗◌, ⊖, 0ℤ}
use Rattle.definitions.specs.Series.{Series, tail, constant, ◌+ˢ◌, _ˢ, ◌·◌, ◌÷◌, z^, spread, alternate, firsts}
use Rattle.definitions.specs.Numbers.{some_to, count_to, divides, share_factor, phi, r_of, m_of, t_of}
use Rattle.definitions.specs.Polynomials.{product_to, at_divisors, z^_1, family_to, F, I, polynomial, degree}
use Rattle.definitions.specs.KeptHalf.{half_degree}
use Rattle.definitions.specs.Answer.{coefficients, height_of, height, place_of, peak_of, peak}
use Rattle.series.specs.Maps.{parity, spread_on, spread_off, alternate_even, alternate_odd}
use Rattle.numbers.specs.Apart.{OddSquarefree, r-pos, r_odd_squarefree, m_even, m_odd, m-pos, t_pos}
use Rattle.step_laws.specs.Signed.{abs_⊖}
use Rattle.cyclotomic.specs.Degrees.{monic, half_below}
use Rattle.cyclotomic.specs.Mirrors.{turned, mirrored}
use Rattle.cyclotomic.specs.Apart.{F_twice, first_copy, second_copy, taken_apart_lem}

-- ---- the height of a list of first coefficients is the least number that none of their magnitudes passes
pub entry_height : (n : ℕ) (f : Series) (i : ℕ) → i < n → nat_abs (f i) ≤ height_of (firsts n f)
unfolding height_of firsts
entry_height zero f i l = absurd (omega arith)
entry_height (suc n) f zero l = omega arith
entry_height (suc n) f (suc i) l = omega (arith, entry_height n (tail f) i (omega arith))

pub height_least : (n : ℕ) (f : Series) (h : ℕ) → ((i : ℕ) → i < n → nat_abs (f i) ≤ h) → height_of (firsts n f) ≤ h
unfolding height_of firsts
height_least zero f h le = omega arith
height_least (suc n) f h le =
    omega (arith, le 0 (omega arith), height_least n (tail f) h (λ i l. le (suc i) (omega arith)))

-- and it is met
height_met : (n : ℕ) (f : Series) → 0 < n → (i : ℕ) × (i < n) × (nat_abs (f i) ≡ height_of (firsts n f))
unfolding height_of firsts
height_met zero f l = absurd (omega arith)
height_met (suc zero) f l = (0, omega arith, omega arith)
height_met (suc (suc n)) f l = go (dec_lt (nat_abs (f 0)) rest) (height_met (suc n) (tail f) (omega arith))
  where
    rest : ℕ
    rest = height_of (firsts (suc n) (tail f))

    go : Dec (nat_abs (f 0) < rest) → (i : ℕ) × (i < suc n) × (nat_abs (f (suc i)) ≡ rest)
        → (i : ℕ) × (i < suc (suc n)) × (nat_abs (f i) ≡ max (nat_abs (f 0)) rest)
    go (yes b) (i, u, e) = (suc i, omega arith, e ∙ omega arith)
    go (no b) m = (0, omega arith, omega (arith, NatL.lt_of_not-le b))

-- ---- the place of a magnitude that is met is the first
record FirstPlace (h n : ℕ) (f : Series) (p : ℕ) : Type 0 where
  pub inside : p < n
  pub here : nat_abs (f p) ≡ h
  pub before : (i : ℕ) → i < p → nat_abs (f i) ≢ h

place-first : (h n : ℕ) (f : Series) (i : ℕ) → i < n → nat_abs (f i) ≡ h → FirstPlace h n f (place_of h (firsts n f))
unfolding place_of firsts
place-first h zero f i l e = absurd (omega arith)
place-first h (suc n) f i l e = go (ℕ_discrete (nat_abs (f 0)) h) i l e (place-first h n (tail f))
  where
    Place : ℕ → Type 0
    Place = FirstPlace h (suc n) f

    q : ℕ
    q = place_of h (firsts n (tail f))

    here : nat_abs (f 0) ≡ h → Place 0
    here a = record { inside = omega arith; here = a; before = λ j b. absurd (NatL.not-suc-le-zero b) }

    later : nat_abs (f 0) ≢ h → FirstPlace h n (tail f) q → Place (suc q)
    later a r = record { inside = omega (arith, r.inside); here = r.here; before = before }
      where
        before : (j : ℕ) → j < suc q → nat_abs (f j) ≢ h
        before zero l = a
        before (suc j) l = r.before j (omega arith)

    go : Dec (nat_abs (f 0) ≡ h) → (i : ℕ) → i < suc n → nat_abs (f i) ≡ h
        → ((i : ℕ) → i < n → nat_abs (f (suc i)) ≡ h → FirstPlace h n (tail f) q)
        → Place (cond (eqb (nat_abs (f 0)) h) 0 (suc q))
    go (yes a) i l e next = rw (eq-eqb (nat_abs (f 0)) h a) (here a)
    go (no a) zero l e next = absurd (a e)
    go (no a) (suc i) l e next = rw (ne_eqb (nat_abs (f 0)) h a) (later a (next i (omega arith) e))

-- ---- the tallest of all coefficients, h in magnitude, and the first of them, at p
pub record Tallest (f : Series) (p h : ℕ) : Type 0 where
  pub some : 0 < h
  pub here : nat_abs (f p) ≡ h
  pub most : (i : ℕ) → nat_abs (f i) ≤ h
  pub first : (i : ℕ) → i < p → nat_abs (f i) < h

-- from a list of first coefficients, and back where the list reaches as far
module _ (n : ℕ) (f : Series) where
  peak-first : 0 < n → FirstPlace (height_of (firsts n f)) n f (peak_of (firsts n f))
  unfolding peak_of
  peak-first l = let (i, u, e) = height_met n f l in place-first (height_of (firsts n f)) n f i u e

  pub first_of : {p h : ℕ} → Tallest f p h → p < n → (height_of (firsts n f) ≡ h) × (peak_of (firsts n f) ≡ p)
  first_of {p} {h} T l = (high, go (peak-first (omega arith)) (dec_lt (peak_of (firsts n f)) p))
    where
      high : height_of (firsts n f) ≡ h
      high =
          NatL.le_antisymm (height_least n f h (λ i u. T.most i))
          (subst (λ x. x ≤ height_of (firsts n f)) T.here (entry_height n f p l))

      go : {q : ℕ} → FirstPlace (height_of (firsts n f)) n f q → Dec (q < p) → q ≡ p
      go {q} F (yes u) = absurd (omega (arith, T.first q u, F.here, high))
      go {q} F (no u) = omega (arith, NatL.lt_of_not-le u, NatL.lt_of_not-le (λ v. F.before p v (T.here ∙ sym high)))

  pub tallest_of : 0 < n → 0 < height_of (firsts n f) → ((i : ℕ) → nat_abs (f i) ≤ height_of (firsts n f))
      → Tallest f (peak_of (firsts n f)) (height_of (firsts n f))
  tallest_of l some most =
      let F = peak-first l in
      record { some = some; here = F.here; most = most; first = λ i u. omega (arith, most i, F.before i u) }

-- as far as the peak the same magnitudes, and none larger after it
stays : {f g : Series} {p h : ℕ} → ((i : ℕ) → i < suc p → nat_abs (g i) ≡ nat_abs (f i)) → ((i : ℕ) → nat_abs (g i) ≤ h)
    → Tallest f p h → Tallest g p h
stays {p = p} same most T =
    record {
      some = T.some;
      here = same p (omega arith) ∙ T.here;
      most = most;
      first = λ i u. rw (same i (omega arith)) (T.first i u);
    }

none-le : {a : ℤ} {h : ℕ} → a ≡ 0ℤ → nat_abs a ≤ h
none-le e = rw e (omega arith)

-- ---- for a polynomial no degree has to be named: there is nothing above it, and a 1 at it
module _ (kind n : ℕ) (p : 0 < n) where
  everywhere : {h : ℕ} → ((i : ℕ) → i < suc (degree kind n) → nat_abs (polynomial kind n i) ≤ h)
      → (i : ℕ) → nat_abs (polynomial kind n i) ≤ h
  everywhere {h} le i = go (dec_lt i (suc (degree kind n)))
    where
      go : Dec (i < suc (degree kind n)) → nat_abs (polynomial kind n i) ≤ h
      go (yes l) = le i l
      go (no l) = rw ((monic kind n p).above i (omega (arith, NatL.lt_of_not-le l))) (omega arith)

  tallest_in : (m : ℕ) → 0 < m
      → ((i : ℕ) → i < suc (degree kind n) → nat_abs (polynomial kind n i) ≤ height_of (firsts m (polynomial kind n)))
      → Tallest (polynomial kind n) (peak_of (firsts m (polynomial kind n))) (height_of (firsts m (polynomial kind n)))
  tallest_in m l le =
      tallest_of m (polynomial kind n) l
      (rw (monic kind n p).top at (everywhere le (degree kind n)))
      (everywhere le)

  pub tallest : Tallest (polynomial kind n) (peak kind n) (height kind n)
  unfolding height peak coefficients
  tallest =
      tallest_in (suc (degree kind n)) (omega arith) (entry_height (suc (degree kind n)) (polynomial kind n))

  pub told : {q h : ℕ} → Tallest (polynomial kind n) q h → (height kind n ≡ h) × (peak kind n ≡ q)
  unfolding height peak coefficients
  told {q} T = first_of (suc (degree kind n)) (polynomial kind n) T (go (dec_lt q (suc (degree kind n))))
    where
      go : Dec (q < suc (degree kind n)) → q < suc (degree kind n)
      go (yes l) = l
      go (no l) =
          let e = (monic kind n p).above q (omega (arith, NatL.lt_of_not-le l)) in
          absurd (omega (arith, T.some, T.here, ap nat_abs e))

  pub peak_inside : peak kind n ≤ degree kind n
  unfolding peak coefficients
  peak_inside = NatL.le_of_suc-le-suc (peak-first (suc (degree kind n)) (polynomial kind n) (omega arith)).inside

  pub at_most-height : (i : ℕ) → nat_abs (polynomial kind n i) ≤ height kind n
  at_most-height = tallest.most

-- ---- n and m: coefficients move to degree times t, zeros between
module _ (t : ℕ) (p : 0 < t) (f : Series) {q h : ℕ} (T : Tallest f q h) where
  spreads : Tallest (spread t f) (q * t) h
  spreads =
      record {
        some = T.some;
        here = ap nat_abs (spread_on t (q * t) f (NatL.mul-mod_left q t) ∙ ap f (NatL.mul-div_cancel q p)) ∙ T.here;
        most = λ i. most i (ℕ_discrete (i % t) 0);
        first = λ i l. first i l (ℕ_discrete (i % t) 0);
      }
    where
      most : (i : ℕ) → Dec (i % t ≡ 0) → nat_abs (spread t f i) ≤ h
      most i (yes e) = rw (spread_on t i f e) (T.most (i / t))
      most i (no e) = none-le (spread_off t i f e)

      first : (i : ℕ) → i < q * t → Dec (i % t ≡ 0) → nat_abs (spread t f i) < h
      first i l (yes e) =
          rw (spread_on t i f e) (T.first (i / t) ((NatL.div-lt_iff_lt-mul {k = t} {x = i} {y = q} p).1 l))
      first i l (no e) = rw (spread_off t i f e) T.some

module _ (kind n : ℕ) (p : 0 < n) where
  tallest-m : {q h : ℕ} → Tallest (polynomial kind (m_of n)) q h → Tallest (polynomial kind n) (q * t_of n) h
  tallest-m T = rw (taken_apart_lem kind n p) (spreads (t_of n) (t_pos n p) (polynomial kind (m_of n)) T)

  pub told-m : (height kind n ≡ height kind (m_of n)) × (peak kind n ≡ peak kind (m_of n) * t_of n)
  told-m = told kind n p (tallest-m (tallest kind (m_of n) (m-pos n p)))

-- ---- 2 r and r: signs change, and I(r) stands there twice
abs_alternate : (f : Series) (i : ℕ) → nat_abs (alternate f i) ≡ nat_abs (f i)
abs_alternate f i = go (parity i)
  where
    go : (i % 2 ≡ 0) ⊎ (i % 2 ≡ 1) → nat_abs (alternate f i) ≡ nat_abs (f i)
    go (inl e) = ap nat_abs (alternate_even i f e)
    go (inr e) = ap nat_abs (alternate_odd i f e) ∙ abs_⊖ (f i)

module _ (r : ℕ) (O : OddSquarefree r) (h : r ≢ 1) where
  F_abs : (i : ℕ) → nat_abs (F (2 * r) i) ≡ nat_abs (F r i)
  F_abs i = ap (λ f. nat_abs (f i)) (F_twice r O h) ∙ abs_alternate (F r) i

  I_abs : (i : ℕ) → i < r → nat_abs (I (2 * r) i) ≡ nat_abs (I r i)
  I_abs i l = ap nat_abs (first_copy r O h i l) ∙ abs_alternate (I r) i

  I_abs_again : (i : ℕ) → nat_abs (I (2 * r) (r + i)) ≡ nat_abs (I r i)
  I_abs_again i = ap nat_abs (second_copy r O h i) ∙ abs_⊖ (alternate (I r) i) ∙ abs_alternate (I r) i

  twice : (b : Bool) {q k : ℕ} → q < r → Tallest (cond b (F r) (I r)) q k
      → Tallest (cond b (F (2 * r)) (I (2 * r))) q k
  twice true l T = stays (λ i u. F_abs i) (λ i. rw (F_abs i) (T.most i)) T
  twice false {q} {k} l T = stays (λ i u. I_abs i (omega arith)) (λ i. most i (dec_lt i r)) T
    where
      most : (i : ℕ) → Dec (i < r) → nat_abs (I (2 * r) i) ≤ k
      most i (yes u) = rw (I_abs i u) (T.most i)
      most i (no u) =
          let e : i ≡ r + (i - r) = omega (arith, NatL.lt_of_not-le u) in
          rw (e, I_abs_again (i - r)) (T.most (i - r))

  tallest_twice : (kind : ℕ) {q k : ℕ} → q < r → Tallest (polynomial kind r) q k → Tallest (polynomial kind (2 * r)) q k
  unfolding polynomial
  tallest_twice kind = twice (eqb kind 1)

-- ---- r and its lower half: entry N - i is entry i or its negative
abs_turned : (kind : ℕ) (a : ℤ) → nat_abs (turned kind a) ≡ nat_abs a
unfolding turned
abs_turned kind a = go (eqb kind 1)
  where
    go : (b : Bool) → nat_abs (cond b a (⊖ a)) ≡ nat_abs a
    go true = refl
    go false = abs_⊖ a

module _ (kind r : ℕ) (l : 1 < r) where
  abbrev lower : List ℤ
  lower = firsts (half_degree kind r + 1) (polynomial kind r)

  in_lower : (i : ℕ) → i < suc (degree kind r) → Dec (i < half_degree kind r + 1)
      → nat_abs (polynomial kind r i) ≤ height_of lower
  unfolding half_degree
  in_lower i u (yes v) = entry_height (half_degree kind r + 1) (polynomial kind r) i v
  in_lower i u (no v) =
      let j = degree kind r - i in
      let low : j < half_degree kind r + 1 = omega (arith, NatL.lt_of_not-le v) in
      let e : degree kind r - j ≡ i = omega arith in
      rw (← e, mirrored kind r l j (omega arith), abs_turned)
      (entry_height (half_degree kind r + 1) (polynomial kind r) j low)

  pub tallest-lower : Tallest (polynomial kind r) (peak_of lower) (height_of lower)
  tallest-lower =
      tallest_in kind r (omega arith) (half_degree kind r + 1) (omega arith)
      (λ i u. in_lower i u (dec_lt i (half_degree kind r + 1)))

  pub told-lower : (height kind r ≡ height_of lower) × (peak kind r ≡ peak_of lower)
  told-lower = told kind r (omega arith) tallest-lower

  peak_below : peak_of lower < r
  peak_below =
      omega (
        arith,
        (peak-first (half_degree kind r + 1) (polynomial kind r) (omega arith)).inside,
        half_below kind r l,
      )

pub told_twice : (kind r : ℕ) → OddSquarefree r → r ≢ 1
    → (height kind (2 * r) ≡ height kind r) × (peak kind (2 * r) ≡ peak kind r)
told_twice kind r O h =
    let l : 1 < r = omega (arith, O.pos) in
    let low = told-lower kind r l in
    told kind (2 * r) (omega arith)
    (tallest_twice r O h kind (rw low.1 (peak_below kind r l)) (tallest kind r (omega arith)))

-- ---- what the height and the peak for n are
pub told-half : (kind n : ℕ) → 0 < n → r_of n ≢ 1
    → (height kind n ≡ height_of (firsts (half_degree kind (r_of n) + 1) (polynomial kind (r_of n))))
    × (peak kind n ≡ peak_of (firsts (half_degree kind (r_of n) + 1) (polynomial kind (r_of n))) * t_of n)
told-half kind n p h =
    let m = told-m kind n p in
    let low = told-lower kind (r_of n) (omega (arith, r-pos n)) in
    let r = go (dec_dvd 2 n) in
    (m.0 ∙ r.0 ∙ low.0, m.1 ∙ ap (λ k. k * t_of n) (r.1 ∙ low.1))
  where
    go : Dec (2 ∣ n) → (height kind (m_of n) ≡ height kind (r_of n)) × (peak kind (m_of n) ≡ peak kind (r_of n))
    go (yes d) = rw (m_even n d) (told_twice kind (r_of n) (r_odd_squarefree n) h)
    go (no d) = rw (m_odd n d) (refl, refl)

-- F(1), F(2), I(1), I(2) have height 1 and peak 0
first_four : (b : Bool) (n : ℕ) → n < 2
    → (height_of (firsts (suc (cond b (phi (suc n)) (suc n - phi (suc n)))) (cond b (F (suc n)) (I (suc n)))) ≡ 1)
    × (peak_of (firsts (suc (cond b (phi (suc n)) (suc n - phi (suc n)))) (cond b (F (suc n)) (I (suc n)))) ≡ 0)
unfolding height_of peak_of place_of ◌⊕◌ ◌⊗◌ ⊖ constant ◌+ˢ◌ _ˢ ◌·◌ ◌÷◌ z^ firsts some_to count_to divides share_factor phi
    product_to at_divisors z^_1 family_to F I
first_four true zero l = (refl, refl)
first_four true (suc zero) l = (refl, refl)
first_four false zero l = (refl, refl)
first_four false (suc zero) l = (refl, refl)
first_four true (suc (suc n)) l = absurd (omega arith)
first_four false (suc (suc n)) l = absurd (omega arith)

pub told-one : (kind n : ℕ) → 0 < n → r_of n ≡ 1 → (height kind n ≡ 1) × (peak kind n ≡ 0)
unfolding height peak coefficients degree polynomial
told-one kind n p e =
    let m = told-m kind n p in
    let f = go (dec_dvd 2 n) in
    (m.0 ∙ f.0, m.1 ∙ ap (λ k. k * t_of n) f.1 ∙ NatL.zero-mul (t_of n))
  where
    go : Dec (2 ∣ n) → (height kind (m_of n) ≡ 1) × (peak kind (m_of n) ≡ 0)
    go (yes d) = rw (m_even n d, e) (first_four (eqb kind 1) 1 (omega arith))
    go (no d) = rw (m_odd n d, e) (first_four (eqb kind 1) 0 (omega arith))

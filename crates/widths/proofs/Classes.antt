-- Classes: of a number in w bytes, as the code tests it; bit upon bit; and which class says that the width is right.
use Prim.Native.Nat.{ℕ, ◌+◌, ◌*◌, ◌-◌, ◌<◌, ◌≤◌, ◌^◌, max}
use mathlib.Core.Path.{◌≡◌, refl, sym}
use mathlib.Core.Bool.{Bool, true, false, cond, not}
use mathlib.Core.List.{List}
use native.Mathlib.Omega.{arith}
use lib.Bits.{bit_or}
use lib.Dec.{leb, eqb}
use lib.IntN.{ℤ, nat_abs}
use borrow.Author.Tests.{le-leb, lt-leb, leb-true, leb-false, eq-eqb, ne_eqb}
use Rattle.definitions.specs.Answer.{height_of}
use Rattle.widths.specs.Numbers.{top, signed_of, widths, one_of, least_of, width}
use Rattle.widths.specs.Classes.{lesser, class}
use Rattle.widths.proofs.Widths.{full}
use Rattle.widths.proofs.Least.{width_cases, width_bounds, least_cases}

-- the magnitude that v stands for in w bytes, by its half
magnitude_low : (w v : ℕ) → v ≤ top w → nat_abs (signed_of w v) ≡ v
unfolding signed_of
magnitude_low w v h = simp (le-leb v (top w) h)

magnitude_high : (w v : ℕ) → top w < v → v < 2 ^ (8 * w) → nat_abs (signed_of w v) ≡ 2 ^ (8 * w) - v
unfolding signed_of
magnitude_high w v h l = simp (lt-leb v (top w) h) (omega arith)

-- the least class
pub class-none : (w : ℕ) → class w 0 ≡ 0
unfolding class
class-none w = simp (le-leb 0 (lesser w) (omega arith))

-- half as many bytes take less
pub lesser_less : (w : ℕ) → one_of widths w ≡ true → lesser w < top w
unfolding lesser top
lesser_less = width_cases (λ w. lesser w < top w) (omega arith) (omega arith) (omega arith) (omega arith)

module _ (w m : ℕ) where
  class_less : m ≤ lesser w → class w m ≡ 0
  unfolding class
  class_less h = simp (le-leb m (lesser w) h)

  class_fits : lesser w < m → m ≤ top w → class w m ≡ 1
  unfolding class
  class_fits l h = simp (lt-leb m (lesser w) l, le-leb m (top w) h)

  class-over : lesser w < m → top w < m → class w m ≡ 3
  unfolding class
  class-over l h = simp (lt-leb m (lesser w) l, lt-leb m (top w) h)

-- the same of a number in w bytes, by the tests that the code makes
module _ (w v : ℕ) (o : one_of widths w ≡ true) (b : v < 2 ^ (8 * w)) where
  whole : 2 ^ (8 * w) ≡ 2 * top w + 2
  whole = full w (width_bounds w o).0

  pub lowest : v ≡ top w + 1 → class w (nat_abs (signed_of w v)) ≡ 3
  lowest e =
      rw (magnitude_high w v (omega arith) b)
      (class-over w _ (omega (arith, whole, lesser_less w o)) (omega (arith, whole)))

  pub small_above : v ≤ lesser w → class w (nat_abs (signed_of w v)) ≡ 0
  small_above h = rw (magnitude_low w v (omega (arith, lesser_less w o))) (class_less w v h)

  pub small_below : top w + top w + 1 - v < lesser w → class w (nat_abs (signed_of w v)) ≡ 0
  small_below h =
      rw (magnitude_high w v (omega (arith, lesser_less w o)) b) (class_less w _ (omega (arith, whole)))

  pub between : (v ≡ top w + 1 → ⊥) → lesser w < v → lesser w ≤ top w + top w + 1 - v
      → class w (nat_abs (signed_of w v)) ≡ 1
  between other more less = go (leb v (top w)) refl
    where
      go : (t : Bool) → leb v (top w) ≡ t → class w (nat_abs (signed_of w v)) ≡ 1
      go true e = rw (magnitude_low w v (leb-true v (top w) e)) (class_fits w v more (leb-true v (top w) e))
      go false e =
          let high : top w < v = leb-false v (top w) e in
          rw (magnitude_high w v high b) (class_fits w _ (omega (arith, whole)) (omega (arith, whole, other)))

-- bit upon bit
leb-max : (a b k : ℕ) → leb (max a b) k ≡ cond (leb a k) (leb b k) false
leb-max a b k = go (leb a k) refl (leb b k) refl
  where
    go : (p : Bool) → leb a k ≡ p → (q : Bool) → leb b k ≡ q → leb (max a b) k ≡ cond p q false
    go true ep true eq = le-leb (max a b) k (omega (arith, leb-true a k ep, leb-true b k eq))
    go true ep false eq = lt-leb (max a b) k (omega (arith, leb-false b k eq))
    go false ep q eq = lt-leb (max a b) k (omega (arith, leb-false a k ep))

pub class-or : (w a b : ℕ) → lesser w < top w → bit_or (class w a) (class w b) ≡ class w (max a b)
unfolding class
class-or w a b l =
    rw (leb-max a b (lesser w), leb-max a b (top w))
    (go (leb a (lesser w)) refl (leb a (top w)) refl (leb b (lesser w)) refl (leb b (top w)) refl)
  where
    wider : (x : ℕ) → leb x (lesser w) ≡ true → leb x (top w) ≡ false → ⊥
    wider x p q = omega (arith, leb-true x (lesser w) p, leb-false x (top w) q)

    go : (p : Bool) → leb a (lesser w) ≡ p → (q : Bool) → leb a (top w) ≡ q → (r : Bool) → leb b (lesser w) ≡ r
        → (s : Bool) → leb b (top w) ≡ s →
        bit_or (cond p 0 (cond q 1 3)) (cond r 0 (cond s 1 3)) ≡ cond (cond p r false) 0 (cond (cond q s false) 1 3)
    go true ep false eq r er s es = absurd (wider a ep eq)
    go true ep true eq true er false es = absurd (wider b er es)
    go true ep true eq true er true es = refl
    go true ep true eq false er true es = refl
    go true ep true eq false er false es = refl
    go false ep true eq true er false es = absurd (wider b er es)
    go false ep true eq true er true es = refl
    go false ep true eq false er true es = refl
    go false ep true eq false er false es = refl
    go false ep false eq true er false es = absurd (wider b er es)
    go false ep false eq true er true es = refl
    go false ep false eq false er true es = refl
    go false ep false eq false er false es = refl

-- the class of the height says whether the width is right
abbrev said : ℕ → ℕ → Bool
said w c = cond (eqb w 1) (not (eqb c 3)) (eqb c 1)

above : (w : ℕ) → one_of widths w ≡ true → (m : ℕ) → top w < m → class w m ≡ 3
above w o m h = class-over w m (omega (arith, lesser_less w o)) h

one_byte : (h : ℕ) → h ≤ 127 → true ≡ not (eqb (class 1 h) 3)
unfolding class top
one_byte h l = simp (le-leb h 127 l) (go (leb h (lesser 1)))
  where
    go : (b : Bool) → true ≡ not (eqb (cond b 0 1) 3)
    go true = refl
    go false = refl

class-right : (w : ℕ) → one_of widths w ≡ true → (h : ℕ) → eqb (least_of widths h) w ≡ said w (class w h)
unfolding lesser top one_of
class-right =
    width_cases (λ w. (h : ℕ) → eqb (least_of widths h) w ≡ said w (class w h))
    (λ h. least_cases (λ v. eqb v 1 ≡ said 1 (class 1 h)) h (one_byte h) (λ l m. rw (above 1 refl h l))
    (λ l m. rw (above 1 refl h (omega arith))) (λ l m. rw (above 1 refl h (omega arith)))
    (λ l. rw (above 1 refl h (omega arith))))
    (λ h. least_cases (λ v. eqb v 2 ≡ said 2 (class 2 h)) h (λ m. rw (class_less 2 h m))
    (λ l m. rw (class_fits 2 h l m)) (λ l m. rw (above 2 refl h l)) (λ l m. rw (above 2 refl h (omega arith)))
    (λ l. rw (above 2 refl h (omega arith))))
    (λ h. least_cases (λ v. eqb v 4 ≡ said 4 (class 4 h)) h (λ m. rw (class_less 4 h (omega arith)))
    (λ l m. rw (class_less 4 h m)) (λ l m. rw (class_fits 4 h l m)) (λ l m. rw (above 4 refl h l))
    (λ l. rw (above 4 refl h (omega arith))))
    (λ h. least_cases (λ v. eqb v 8 ≡ said 8 (class 8 h)) h (λ m. rw (class_less 8 h (omega arith)))
    (λ l m. rw (class_less 8 h (omega arith))) (λ l m. rw (class_less 8 h m)) (λ l m. rw (class_fits 8 h l m))
    (λ l. rw (above 8 refl h l)))

-- as the function tests it
module _ (w c : ℕ) (cs : List ℤ) (o : one_of widths w ≡ true) (e : c ≡ class w (height_of cs)) where
  tested : said w c ≡ eqb (width cs) w
  unfolding width
  tested = rw e (sym (class-right w o (height_of cs)))

  pub tested-one : w ≡ 1 → not (eqb c 3) ≡ eqb (width cs) w
  tested-one h = simp (eq-eqb w 1 h) at tested

  pub tested_more : (w ≡ 1 → ⊥) → eqb c 1 ≡ eqb (width cs) w
  tested_more h = simp (ne_eqb w 1 h) at tested

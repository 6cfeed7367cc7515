-- z^t for z, in place from the top down: what lies above i t is spread, what lies up to i is still old, and between the
-- two stand zeros. A turn clears i and puts what stood there at i t.
use Prim.Native.Nat.{ℕ, suc, ◌+◌, ◌*◌, ◌-◌, ◌/◌, ◌%◌, ◌<◌, ◌≤◌}
use mathlib.Core.Path.{◌≡◌, refl, sym, ◌∙◌, ap}
use mathlib.Core.Logic.{◌≢◌}
use mathlib.Core.List.{List}
use native.Mathlib.Omega.{arith}
use native.Mathlib.Nat as NatL
use native.Mathlib.Decide.{ℕ_discrete}
use borrow.Rule.Slice.PartMut.{put_mid}
use lib.ListN.{length, get_or, set, length-set, length-replicate, get_or-replicate}
use lib.IntN.{ℤ}
use Rattle.definitions.specs.Integers.{0ℤ}
use Rattle.definitions.specs.Series.{Series, spread, firsts}
use Rattle.definitions.specs.Steps.{entries}
use Rattle.definitions.specs.Requests.{zeros}
use Rattle.series.specs.Maps.{spread_on, spread_off, spread-zero}
use Rattle.step_laws.specs.Firsts.{is_firsts}
use Rattle.step_laws.specs.Tests.{by_order}
use Rattle.entry_steps.proofs.Split.{get_or-set_by}
use Rattle.shapes.proofs.Stretches.{put_before, put_in, put_length}

pub record Spreading (t : ℕ) (e : Series) (n : ℕ) (l : List ℤ) (i : ℕ) : Type 0 where
  pub len : length l ≡ n
  pub old : (k : ℕ) → k ≤ i → k < n → get_or l k 0ℤ ≡ e k
  pub none : (k : ℕ) → i < k → k ≤ i * t → k < n → get_or l k 0ℤ ≡ 0ℤ
  pub new : (k : ℕ) → i * t < k → k < n → get_or l k 0ℤ ≡ spread t e k

pub above_fits : (t top : ℕ) {n : ℕ} → 1 ≤ t → n ≡ top * t + 1 → top + 1 ≤ n
above_fits t top one e = let m : top ≤ top * t = NatL.le-mul_of_pos_right top one in omega arith

-- all that lies above the top entry is cleared
module _ (t top : ℕ) (l ys : List ℤ) (one : 1 ≤ t) (e : length l ≡ top * t + 1)
    (z : ys ≡ zeros (length l - (top + 1))) where
  fits : top + 1 ≤ length l
  fits = above_fits t top one e

  ys_length : length ys ≡ length l - (top + 1)
  unfolding zeros
  ys_length = ap length z ∙ length-replicate (length l - (top + 1)) 0ℤ

  pub spreading_start : Spreading t (entries l) (length l) (put_mid (top + 1) (length l - (top + 1)) l ys) top
  unfolding entries zeros
  spreading_start =
      record {
        len = put_length (top + 1) (length l) l ys fits (omega arith) ys_length;
        old = λ k h b. put_before (top + 1) (length l) l ys fits (omega arith) ys_length k (omega arith);
        none = λ k h u b. put_in (top + 1) (length l) l ys fits (omega arith) ys_length k (omega arith) b
            ∙ ap (λ x. get_or x (k - (top + 1)) 0ℤ) z
            ∙ get_or-replicate (length l - (top + 1)) (k - (top + 1)) 0ℤ 0ℤ (omega arith);
        new = λ k h b. absurd (omega arith);
      }

-- no entry goes down
at_least : (t i : ℕ) → 1 ≤ t → i ≤ i * t
at_least t i one = NatL.le-mul_of_pos_right i one

-- one turn: (i - 1) t is i - 1 at least, so what is still old lies below all that is new
module _ {t : ℕ} {e : Series} {n : ℕ} {l : List ℤ} {i : ℕ} (s : Spreading t e n l i) (some : 0 < i) where
  -- (i - 1) t
  step_down : i * t ≡ (i - 1) * t + t
  step_down = let back : i ≡ suc (i - 1) = omega arith in ap (λ j. j * t) back ∙ NatL.suc-mul (i - 1) t

  -- between two multiples of t lies none
  gap : (k : ℕ) → (i - 1) * t < k → k < i * t → k % t ≢ 0
  gap k a b z =
      let q : k / t * t ≡ k = omega (arith, NatL.div-add-mod' k t) in
      let low : (i - 1) * t < k / t * t = omega arith in
      let high : k / t * t < i * t = omega arith in
      omega (arith, NatL.lt_of_mul-lt-mul_right t low, NatL.lt_of_mul-lt-mul_right t high)

  off : (k : ℕ) → (i - 1) * t < k → k < i * t → 0ℤ ≡ spread t e k
  off k a b = sym (spread_off t k e (gap k a b))

  -- v was read, zero put in its place, and v put where it goes
  module _ {m : List ℤ} {v : ℤ} (one : 1 ≤ t) (b : i * t < n) (r : v ≡ entries l i)
      (q : m ≡ set (set l i 0ℤ) (i * t) v) where
    far_enough : i - 1 ≤ (i - 1) * t
    far_enough = at_least t (i - 1) one

    up : i ≤ i * t
    up = at_least t i one

    -- what a place holds then: what was moved, nothing, or what it held
    after : (k : ℕ) (y : ℤ) → (k ≡ i * t → e i ≡ y) → (k ≢ i * t → k ≡ i → 0ℤ ≡ y)
        → (k ≢ i * t → k ≢ i → get_or l k 0ℤ ≡ y) → get_or m k 0ℤ ≡ y
    unfolding entries
    after k y moved cleared rest =
        rw q
        (get_or-set_by (set l i 0ℤ) (i * t) v (omega (arith, length-set l i 0ℤ, s.len)) k y
        (λ p. r ∙ s.old i (omega arith) (omega (arith, up)) ∙ moved p)
        (λ na. get_or-set_by l i 0ℤ (omega (arith, up, s.len)) k y (cleared na) (rest na)))

    pub spreading_turn : Spreading t e n m (i - 1)
    spreading_turn =
        let far = far_enough in
        let high = up in
        let down = step_down in
        record {
          len = rw q (simp length-set s.len);
          old = λ k h u. after k (e k) (λ p. absurd (omega arith)) (λ na p. absurd (omega arith))
              (λ na ni. s.old k (omega arith) u);
          none = λ k h w u. after k 0ℤ (λ p. absurd (omega arith)) (λ na p. refl)
              (λ na ni. s.none k (omega arith) (omega arith) u);
          new = λ k h u. after k (spread t e k) (λ p. sym (ap (spread t e) p ∙ there))
              (λ na p. off k h (omega arith))
              (λ na ni. by_order k (i * t) (λ w. s.none k (omega arith) (omega arith) u ∙ off k h w)
              (λ w. s.new k (omega arith) u));
        }
      where
        there : spread t e (i * t) ≡ e i
        there = spread_on t (i * t) e (NatL.mul-mod_left i t) ∙ ap e (NatL.mul-div_cancel i one)

pub spreading_end : {t : ℕ} {e : Series} {n : ℕ} {l : List ℤ} {i : ℕ} → Spreading t e n l i → 1 ≤ t → i ≡ 0
    → l ≡ firsts n (spread t e)
spreading_end {t} {e} {n} {l} {i} s one z = is_firsts n (spread t e) l s.len (λ k b. go k b (ℕ_discrete k 0))
  where
    go : (k : ℕ) → k < n → Dec (k ≡ 0) → get_or l k 0ℤ ≡ spread t e k
    go k b (yes q) = s.old k (omega arith) b ∙ ap e q ∙ sym (spread-zero t one e) ∙ ap (spread t e) (sym q)
    go k b (no q) = let p : i * t ≡ 0 = ap (λ j. j * t) z ∙ NatL.zero-mul t in s.new k (omega arith) b

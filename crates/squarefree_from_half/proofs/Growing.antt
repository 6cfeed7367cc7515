-- The lower half for r grows to the polynomial of m: the mirrored entries are those of the polynomial, and for an even
-- index the alternated ones and the second copy.
use Prim.Native.Nat.{ℕ, suc, ◌+◌, ◌*◌, ◌-◌, ◌/◌, ◌%◌, ◌<◌, ◌≤◌}
use mathlib.Core.Path.{◌≡◌, refl, sym, ◌∙◌, ap}
use mathlib.Core.Bool.{Bool, true, false, cond, not}
use mathlib.Core.Logic.{◌⊎◌, inl, inr}
use mathlib.Core.List.{List, ◌++◌}
use native.Mathlib.Omega.{arith}
use native.Mathlib.Nat as NatL
use lib.ListN.{length, get_or, take, drop, length-append, length-drop, length-replicate, get_or-replicate, get_or-append}
use lib.Seq.{get_or-take}
use borrow.Rule.Slice.PartMut.{put_mid}
use Rattle.definitions.specs.Requests.{zeros}
use lib.Dec.{eqb}
use lib.IntN.{ℤ, nat_abs}
use Rattle.definitions.specs.Integers.{⊖, 0ℤ}
use Rattle.definitions.specs.Series.{Series, firsts, alternate}
use Rattle.definitions.specs.Numbers.{phi}
use Rattle.definitions.specs.Polynomials.{polynomial, degree, I}
use Rattle.definitions.specs.KeptHalf.{half_degree}
use Rattle.definitions.specs.Steps.{entries, largest}
use Rattle.step_laws.specs.Firsts.{firsts_same, length-firsts, get_or-firsts}
use Rattle.step_laws.specs.Tests.{by_order}
use Rattle.series.specs.Maps.{parity, alternate_even, alternate_odd, alternate-none}
use Rattle.numbers.specs.Phi.{phi-pos, phi-le}
use Rattle.cyclotomic.specs.Mirrors.{turned, mirrored}
use Rattle.cyclotomic.specs.Degrees.{monic_I}
use Rattle.cyclotomic.specs.Apart.{first_copy, second_copy}
use Rattle.definitions.specs.Halves.{mirrored_up}
use Rattle.shapes.specs.Shapes.{negated_copy}
use Rattle.squarefree_from_half.specs.Growth.{Lower, FirstCopy}
use Rattle.step_laws.specs.Signed.{abs_⊖}
use Rattle.shapes.proofs.Stretches.{put_before, put_in, put_length}
use Rattle.shapes.proofs.Shaping.{mirrored_low, mirrored_high, copied_low, copied_high}

-- the half of N + 1 entries, rounded up, is D + 1
pub half-number : (kind r : ℕ) → (degree kind r + 1 + 1) / 2 ≡ half_degree kind r + 1
unfolding half_degree
half-number kind r = omega arith

module _ (kind r : ℕ) (l : List ℤ) (w : Lower kind r l) where
  larger : 1 < r
  larger = NatL.lt_of_not-le (λ b. w.above (omega (arith, w.squarefree.pos)))

  turned_abs : (v : ℤ) → nat_abs (turned kind v) ≡ nat_abs v
  unfolding turned
  turned_abs v = go (eqb kind 1)
    where
      go : (b : Bool) → nat_abs (cond b v (⊖ v)) ≡ nat_abs v
      go true = refl
      go false = abs_⊖ v

  -- every coefficient is, up to sign, one of the lower half
  pub all_inside : (i : ℕ) → i < degree kind r + 1 → nat_abs (polynomial kind r i) ≤ largest
  unfolding half_degree
  all_inside i h =
      by_order i (degree kind r / 2 + 1) (w.inside i)
      (λ high.
      let at : degree kind r - (degree kind r - i) ≡ i = omega arith in
      rw (ap (λ k. nat_abs (polynomial kind r k)) (sym at)
      ∙ ap nat_abs (mirrored kind r larger (degree kind r - i) (omega arith))
      ∙ turned_abs (polynomial kind r (degree kind r - i)))
      (w.inside (degree kind r - i) (omega arith)))

  pub mirror_grows : (negate : Bool) → negate ≡ not (eqb kind 1) → (i : ℕ) → i < degree kind r + 1
      → mirrored_up negate (degree kind r + 1) (entries l) i ≡ polynomial kind r i
  unfolding turned
  mirror_grows negate e i h =
      by_order i ((degree kind r + 1 + 1) / 2)
      (λ low. mirrored_low negate (degree kind r + 1) (entries l) i low ∙ w.half i (omega (arith, half-number kind r)))
      (λ high.
      let back : degree kind r + 1 - 1 - i ≡ degree kind r - i = omega arith in
      let at : degree kind r - (degree kind r - i) ≡ i = omega arith in
      mirrored_high negate (degree kind r + 1) (entries l) i high
      ∙ ap (λ k. cond negate (⊖ (entries l k)) (entries l k)) back
      ∙ ap (λ v. cond negate (⊖ v) v) (w.half (degree kind r - i) (omega (arith, half-number kind r)))
      ∙ ap (λ b. cond b (⊖ (polynomial kind r (degree kind r - i))) (polynomial kind r (degree kind r - i))) e
      ∙ signs (eqb kind 1) (polynomial kind r (degree kind r - i))
      ∙ sym (mirrored kind r larger (degree kind r - i) (omega arith)) ∙ ap (polynomial kind r) at)
    where
      signs : (b : Bool) (v : ℤ) → cond (not b) (⊖ v) v ≡ cond b v (⊖ v)
      signs true v = refl
      signs false v = refl

-- ---- lists whose first entries are known
pub front_entry : (n : ℕ) (f : Series) (l : List ℤ) → l ≡ firsts n f → (i : ℕ) → i < n → entries l i ≡ f i
unfolding entries
front_entry n f l e i h = ap (λ x. get_or x i 0ℤ) e ∙ get_or-firsts n f i h

pub front_length : (n : ℕ) (f : Series) (l : List ℤ) → l ≡ firsts n f → length l ≡ n
front_length n f l e = ap length e ∙ length-firsts n f

-- an alternated entry is as large
pub alternate_abs : (f : Series) (i : ℕ) → nat_abs (alternate f i) ≡ nat_abs (f i)
alternate_abs f i = go (parity i)
  where
    go : (i % 2 ≡ 0) ⊎ (i % 2 ≡ 1) → nat_abs (alternate f i) ≡ nat_abs (f i)
    go (inl e) = ap nat_abs (alternate_even i f e)
    go (inr e) = ap nat_abs (alternate_odd i f e) ∙ abs_⊖ (f i)

-- ---- the second copy
module _ (r top : ℕ) (l : List ℤ) (w : FirstCopy r top l) where
  -- I(r) has r - phi(r) + 1 coefficients, at most r
  pub top_below : top ≤ r
  unfolding degree
  top_below = omega (arith, w.number, phi-pos r w.squarefree.pos, phi-le r)

  pub second-copies :
      (m : List ℤ) → ((i : ℕ) → i < top → entries m i ≡ entries l i) → ((i : ℕ) → top ≤ i → i < r → entries m i ≡ 0ℤ)
      → (i : ℕ) → i < r + top → negated_copy r (entries m) i ≡ I (2 * r) i
  unfolding polynomial
  second-copies m low gap i h =
      by_order i r
      (λ a. copied_low r (entries m) i a ∙ by_order i top
      (λ b. low i b ∙ w.copy i b ∙ sym (first_copy r w.squarefree w.above i a))
      (λ b. gap i b a ∙ sym (first_copy r w.squarefree w.above i a ∙ alternate-none i (I r) (nothing i b))))
      (λ a.
      let at : r + (i - r) ≡ i = omega arith in
      copied_high r (entries m) i a ∙ ap ⊖ (low (i - r) (omega arith) ∙ w.copy (i - r) (omega arith))
      ∙ sym (second_copy r w.squarefree w.above (i - r)) ∙ ap (I (2 * r)) at)
    where
      nothing : (k : ℕ) → top ≤ k → I r k ≡ 0ℤ
      nothing k b = (monic_I r w.squarefree.pos).above k (above k b)
        where
          above : (k : ℕ) → top ≤ k → suc (r - phi r) ≤ k
          above k b = unfold degree in omega (arith, w.number)

  -- what a clearing from top up to r leaves
  module _ (ys : List ℤ) (z : ys ≡ zeros (r - top)) where
    ys_length : length ys ≡ r - top
    unfolding zeros
    ys_length = ap length z ∙ length-replicate (r - top) 0ℤ

    room : r ≤ length l
    room = omega (arith, w.len)

    pub cleared_length : length (put_mid top (r - top) l ys) ≡ length l
    cleared_length = put_length top r l ys top_below room ys_length

    low : (i : ℕ) → i < top → entries (put_mid top (r - top) l ys) i ≡ entries l i
    unfolding entries
    low i h = put_before top r l ys top_below room ys_length i h

    gap : (i : ℕ) → top ≤ i → i < r → entries (put_mid top (r - top) l ys) i ≡ 0ℤ
    unfolding entries zeros
    gap i a b =
        put_in top r l ys top_below room ys_length i a b ∙ ap (λ x. get_or x (i - top) 0ℤ) z
        ∙ get_or-replicate (r - top) (i - top) 0ℤ 0ℤ (omega arith)

    pub cleared_inside : (i : ℕ) → i < length (put_mid top (r - top) l ys) - r
        → nat_abs (entries (put_mid top (r - top) l ys) i) ≤ largest
    cleared_inside i h =
        let b : i < top = omega (arith, cleared_length, w.len) in
        rw (low i b ∙ w.copy i b) (rw (alternate_abs (polynomial 2 r) i) (w.inside i b))

    pub second-done :
        (x : List ℤ)
        → x ≡ firsts (length (put_mid top (r - top) l ys)) (negated_copy r (entries (put_mid top (r - top) l ys)))
        → x ≡ firsts (length l) (I (2 * r))
    second-done x e =
        e ∙ ap (λ k. firsts k (negated_copy r (entries (put_mid top (r - top) l ys)))) cleared_length
        ∙ firsts_same (length l) _ (I (2 * r))
        (λ i h. second-copies (put_mid top (r - top) l ys) low gap i (omega (arith, w.len)))

-- ---- signs changed
alternate_same : (f g : Series) (i : ℕ) → f i ≡ g i → alternate f i ≡ alternate g i
unfolding alternate
alternate_same f g i e = ap (λ v. cond (eqb (i % 2) 0) v (⊖ v)) e

pub alternated : (n : ℕ) (f : Series) (l x : List ℤ) → l ≡ firsts n f → x ≡ firsts (length l) (alternate (entries l))
    → x ≡ firsts n (alternate f)
alternated n f l x e q =
    q ∙ ap (λ k. firsts k (alternate (entries l))) (front_length n f l e)
    ∙ firsts_same n (alternate (entries l)) (alternate f)
    (λ i h. alternate_same (entries l) f i (front_entry n f l e i h))

-- ---- the first entries of a list alone
pub half_within : (kind r : ℕ) → half_degree kind r ≤ degree kind r
unfolding half_degree
half_within kind r = omega arith

pub lower-front : (kind r top : ℕ) (l : List ℤ) → degree kind r + 1 ≤ top → Lower kind r l → Lower kind r (take top l)
unfolding entries
lower-front kind r top l e w =
    record {
      squarefree = w.squarefree;
      above = w.above;
      half = λ i h. get_or-take top l i 0ℤ (omega (arith, half_within kind r)) ∙ w.half i h;
      inside = w.inside;
    }

pub copy-front :
    (r top : ℕ) (l m : List ℤ) → Lower 2 r l → top ≡ degree 2 r + 1 → length l ≡ r + top
    → m ≡ firsts (degree 2 r + 1) (alternate (polynomial 2 r))
    → FirstCopy r top (m ++ drop top l)
unfolding entries
copy-front r top l m w e len q =
    record {
      squarefree = w.squarefree;
      above = w.above;
      number = e;
      copy = λ i h. get_or-append m (drop top l) 0ℤ i (omega (arith, m-length))
          ∙ front_entry (degree 2 r + 1) (alternate (polynomial 2 r)) m q i (omega arith);
      inside = λ i h. all_inside 2 r l w i (omega arith);
      len = length-append m (drop top l) ∙ omega (arith, m-length, length-drop top l);
    }
  where
    m-length : length m ≡ degree 2 r + 1
    m-length = front_length (degree 2 r + 1) (alternate (polynomial 2 r)) m q

-- The polynomial of n laid out: what n taken apart gives, and that the polynomial of m in the first entries, with z^t
-- for z, is that of n.
use Prim.Native.Nat.{ℕ, ◌+◌, ◌*◌, ◌-◌, ◌/◌, ◌%◌, ◌<◌, ◌≤◌}
use mathlib.Core.Path.{◌≡◌, refl, sym, ◌∙◌, ap, ap₂}
use mathlib.Core.Bool.{Bool, true, false, cond}
use mathlib.Core.List.{List, ◌++◌}
use native.Mathlib.Omega.{arith}
use native.Mathlib.Nat as NatL
use native.Mathlib.Numerals.{add-one}
use native.Mathlib.Decide.{ℕ_discrete}
use lib.ListN.{length, take, drop, length-append, length-drop, get_or-append}
use lib.Seq.{length-take-le}
use lib.Dec.{eqb}
use lib.IntN.{ℤ}
use Rattle.definitions.specs.Integers.{0ℤ}
use Rattle.definitions.specs.Series.{Series, firsts, spread}
use Rattle.definitions.specs.Numbers.{divides, phi, r_of, m_of, t_of}
use Rattle.definitions.specs.Polynomials.{polynomial, degree}
use Rattle.definitions.specs.Steps.{entries}
use Rattle.definitions.specs.Answer.{coefficients}
use Rattle.numbers.specs.Apart.{t_pos as of-t}
use Rattle.numbers.specs.PhiApart.{phi-m}
use Rattle.series.specs.Maps.{spread_on, spread_off}
use Rattle.step_laws.specs.Firsts.{firsts_same}
use Rattle.cyclotomic.specs.Apart.{taken_apart_lem}
use Rattle.cyclotomic.specs.Degrees.{degree-apart}
use Rattle.whole_from_half.specs.Ready.{Ready}
use Rattle.index.specs.declared.Parts.{Parts}
use Rattle.index.proofs.Laws.{index_good, parts_r, parts_m, parts_t, parts_free}
use Rattle.squarefree_from_half.proofs.Growing.{front_entry, front_length}

-- z^t for z, of series that are equal up to a degree
pub spread-front : (t top : ℕ) → 1 ≤ t → (f g : Series) → ((i : ℕ) → i < top + 1 → f i ≡ g i) → (k : ℕ)
    → k < top * t + 1 → spread t f k ≡ spread t g k
spread-front t top pos f g same k h = go (ℕ_discrete (k % t) 0)
  where
    below : k / t < top + 1
    below = (NatL.div-lt_iff_lt-mul {k = t} {x = k} {y = top + 1} pos).1 (omega (arith, NatL.add-mul top 1 t, pos))

    go : Dec (k % t ≡ 0) → spread t f k ≡ spread t g k
    go (yes z) = spread_on t k f z ∙ same (k / t) below ∙ sym (spread_on t k g z)
    go (no z) = spread_off t k f z ∙ sym (spread_off t k g z)

-- what the making goes by: `top`, the degree for m, has room; and where the first entries are the polynomial of m, z^t
-- for z makes that of n
pub record LaidOut (kind n : ℕ) (a : Parts) (l : List ℤ) (top : ℕ) : Type 0 where
  pub t_pos : 1 ≤ a.t
  pub top-room : top + 1 ≤ length l
  pub r-room : degree kind (r_of n) + 1 ≤ top + 1
  pub part_length : length (take (top + 1) l) ≡ top + 1
  pub part_of-m : {m : ℕ} → m ≡ m_of n → length (take (top + 1) l) ≡ degree kind m + 1
  pub spaced-length : {m : ℕ} → m ≡ m_of n → (x : List ℤ)
      → x ≡ firsts (length (take (top + 1) l)) (polynomial kind m)
      → length (x ++ drop (top + 1) l) ≡ top * a.t + 1
  pub spaced : {m : ℕ} → m ≡ m_of n → (x : List ℤ)
      → x ≡ firsts (length (take (top + 1) l)) (polynomial kind m)
      → (y : List ℤ)
      → y ≡ firsts (length (x ++ drop (top + 1) l)) (spread a.t (entries (x ++ drop (top + 1) l)))
      → y ≡ coefficients kind n

module _ (kind n : ℕ) (a : Parts) (l : List ℤ) (R : Ready kind n a l) where
  pub above_zero : 0 < n
  above_zero = (index_good n R.good).0

  pub r_is : a.r ≡ r_of n
  r_is = parts_r n a R.parts

  m_is : a.m ≡ m_of n
  m_is = parts_m n a R.parts

  pub t_is : a.t ≡ t_of n
  t_is = parts_t n a R.parts

  pub free_is : a.free ≡ phi (r_of n)
  free_is = parts_free n a R.parts

  free-m : a.free ≡ phi a.m
  free-m = free_is ∙ sym (ap phi m_is ∙ phi-m n)

  t_pos : 1 ≤ a.t
  t_pos = rw t_is (of-t n above_zero)

  pub m_by_parity : cond (eqb (n % 2) 0) (2 * a.r) a.r ≡ m_of n
  unfolding m_of divides
  m_by_parity = ap (λ r. cond (eqb (n % 2) 0) (2 * r) r) r_is

  pub tiny_m : r_of n ≡ 1 → cond (eqb (n % 2) 0) 2 1 ≡ m_of n
  tiny_m o = sym (ap (λ r. cond (eqb (n % 2) 0) (2 * r) r) (r_is ∙ o)) ∙ m_by_parity

  -- r's degree is at most m's
  r-degree : degree kind (r_of n) ≤ degree kind (m_of n)
  unfolding degree
  r-degree = go (eqb kind 1) (eqb (n % 2) 0) m_by_parity
    where
      go : (b c : Bool) → cond c (2 * a.r) a.r ≡ m_of n → cond b (phi (r_of n)) (r_of n - phi (r_of n))
          ≤ cond b (phi (m_of n)) (m_of n - phi (m_of n))
      go true c e = omega (arith, phi-m n)
      go false true e = omega (arith, phi-m n, r_is)
      go false false e = omega (arith, phi-m n, r_is)

  pub r_fits : degree kind (r_of n) + 1 ≤ length l
  r_fits = omega (
    arith,
    r-degree,
    R.room,
    degree-apart kind n above_zero,
    NatL.le-mul_of_pos_right (degree kind (m_of n)) t_pos,
    ap (λ t. degree kind (m_of n) * t) t_is,
  )

  -- the degree for m, as it is computed
  module _ (top : ℕ) (e : top ≡ cond (eqb kind 1) a.free (a.m - a.free)) where
    top_is : top ≡ degree kind (m_of n)
    unfolding degree
    top_is = e ∙ ap₂ (λ f m. cond (eqb kind 1) f (m - f)) free-m refl
        ∙ ap (λ m. cond (eqb kind 1) (phi m) (m - phi m)) m_is

    room_is : length l ≡ top * a.t + 1
    room_is = R.room ∙ ap (λ d. d + 1) (degree-apart kind n above_zero ∙ ap₂ ◌*◌ (sym top_is) (sym t_is))

    top-room : top + 1 ≤ length l
    top-room = omega (arith, room_is, NatL.le-mul_of_pos_right top t_pos)

    r-room : degree kind (r_of n) + 1 ≤ top + 1
    r-room = omega (arith, r-degree, top_is)

    part_length : length (take (top + 1) l) ≡ top + 1
    part_length = length-take-le (top + 1) l top-room

    -- the first entries are the polynomial of m
    module _ (x : List ℤ) (q : x ≡ firsts (top + 1) (polynomial kind (m_of n))) where
      spaced-length : length (x ++ drop (top + 1) l) ≡ top * a.t + 1
      spaced-length =
          length-append x (drop (top + 1) l)
          ∙ omega (
            arith,
            front_length (top + 1) (polynomial kind (m_of n)) x q,
            length-drop (top + 1) l,
            room_is,
            top-room,
          )

      in_front : (i : ℕ) → i < top + 1 → entries (x ++ drop (top + 1) l) i ≡ polynomial kind (m_of n) i
      unfolding entries
      in_front i h =
          get_or-append x (drop (top + 1) l) 0ℤ i
          (omega (arith, front_length (top + 1) (polynomial kind (m_of n)) x q))
          ∙ front_entry (top + 1) (polynomial kind (m_of n)) x q i h

      spaced :
          (y : List ℤ) → y ≡ firsts (length (x ++ drop (top + 1) l)) (spread a.t (entries (x ++ drop (top + 1) l)))
          → y ≡ coefficients kind n
      unfolding coefficients
      spaced y p =
          p ∙ ap (λ k. firsts k (spread a.t (entries (x ++ drop (top + 1) l)))) spaced-length
          ∙ firsts_same (top * a.t + 1) _ (spread a.t (polynomial kind (m_of n)))
          (spread-front a.t top t_pos (entries (x ++ drop (top + 1) l)) (polynomial kind (m_of n)) in_front)
          ∙ ap₂ firsts (sym room_is ∙ R.room ∙ add-one (degree kind n))
          (ap (λ t. spread t (polynomial kind (m_of n))) t_is ∙ sym (taken_apart_lem kind n above_zero))

    -- m, however it was computed
    module _ {m : ℕ} (em : m ≡ m_of n) where
      of_m : (x : List ℤ) → x ≡ firsts (length (take (top + 1) l)) (polynomial kind m)
          → x ≡ firsts (top + 1) (polynomial kind (m_of n))
      of_m x e = e ∙ ap₂ (λ k j. firsts k (polynomial kind j)) part_length em

    pub laid_out : LaidOut kind n a l top
    laid_out =
        record {
          t_pos = t_pos;
          top-room = top-room;
          r-room = r-room;
          part_length = part_length;
          part_of-m = λ em. part_length ∙ ap (λ d. d + 1) (top_is ∙ ap (degree kind) (sym em));
          spaced-length = λ em x q. spaced-length x (of_m em x q);
          spaced = λ em x q. spaced x (of_m em x q);
        }

-- One prime fewer: with p the last prime of r's row, r / p is the product of the others and phi(r) / (p - 1) its phi;
-- each slice has room for what it is then asked for, as scratch too (`one_fewer`); and what was made of one prime fewer
-- can be joined (`join`). Of no prime at all the lower half is one entry.
use Prim.Native.Nat.{ℕ, zero, suc, ◌+◌, ◌*◌, ◌-◌, ◌/◌, ◌<◌, ◌≤◌, ◌∣◌}
use mathlib.Core.Path.{◌≡◌, refl, sym, ◌∙◌, ap, ap₂, subst}
use mathlib.Core.Bool.{Bool, true, false, cond}
use mathlib.Core.List.{List, [], ◌∷◌, ◌++◌}
use native.Mathlib.Nat as NatL
use native.Mathlib.Omega.{arith}
use lib.Dec.{eqb}
use lib.ListN.{length, get_or, set, take, drop, length-drop, get_or-append}
use lib.Seq.{get_or-set_same, get_or-take, get_or-append-add, length-take-le}
use lib.IntN.{ℤ, pos, negsuc}
use borrow.Rule.Slice.PartMut.{put_mid}
use Rattle.definitions.specs.Integers.{⊖, 0ℤ}
use Rattle.definitions.specs.Numbers.{row_to, phi}
use Rattle.definitions.specs.Series.{constant}
use Rattle.definitions.specs.Polynomials.{degree, polynomial}
use Rattle.definitions.specs.Steps.{entries}
use Rattle.definitions.specs.KeptHalf.{half_degree}
use Rattle.definitions.specs.Second.{other_kind}
use Rattle.numbers.specs.Phi.{phi-le, phi-lt, phi-one}
use Rattle.numbers.specs.Primes.{Prime}
use Rattle.numbers.specs.PrimeRows.{OddRow, fewer, odd_fewer, row-pos, row-phi, phi_outgrows}
use Rattle.cyclotomic.specs.Family.{F-one, z^_1_zero}
use Rattle.cyclotomic.specs.Apart.{I-one}
use Rattle.shapes.proofs.Stretches.{put_before, put_in, put_length}
use Rattle.second_engine.proofs.Joined.{both_degrees}
use Rattle.second_engine.specs.Halves.{Asked, Half, Filled, Joining}

-- the lower half of either kind has room for both polynomials of two primes fewer
module _ (l : List ℕ) (i : ℕ) (o : OddRow l (suc (suc i))) where
  abbrev m' : ℕ
  m' = row_to l i

  abbrev m : ℕ
  m = row_to l (suc i)

  abbrev p : ℕ
  p = get_or l (suc i) 0

  abbrev r : ℕ
  r = row_to l (suc (suc i))

  one : 0 < m'
  one = row-pos l i (odd_fewer l (odd_fewer l o)).new

  -- three times as large, at least
  three : m' * 3 ≤ m
  unfolding row_to
  three = NatL.mul-le-mul_left m' (o.odd i (omega arith))

  outgrown : m' + 1 ≤ phi m
  outgrown = phi_outgrows l i (odd_fewer l o)

  above : 2 < p
  above = o.odd (suc i) (omega arith)

  free : phi r ≡ phi m * (p - 1)
  free = row-phi l (suc i) o.new

  first : phi m * 2 ≤ phi r
  first = rw free (NatL.mul-le-mul_left (phi m) (omega (arith, above)))

  -- r - phi(r) is at least m + (p - 1)
  rest : m + (p - 1) ≤ r - phi r
  unfolding row_to
  rest =
      let less : phi m + 1 ≤ m = omega (arith, phi-lt m (omega (arith, three, one))) in
      let by_one : p ≡ p - 1 + 1 = omega (arith, above) in
      let last : m * p ≡ m * (p - 1) + m =
      ap (λ x. m * x) by_one ∙ NatL.mul-add m (p - 1) 1 ∙ ap (λ x. m * (p - 1) + x) (NatL.mul-one m) in
      omega (arith, free, last, NatL.mul-le-mul_right (p - 1) less, NatL.add-mul (phi m) 1 (p - 1))

  pub roomy : (kind : ℕ) → m' + 2 ≤ half_degree kind r + 1
  unfolding half_degree degree
  roomy kind = go (eqb kind 1)
    where
      go : (b : Bool) → m' + 2 ≤ cond b (phi r) (r - phi r) / 2 + 1
      go true = omega (arith, outgrown, first)
      go false = omega (arith, rest, three, one, above)

-- ---- rows that begin alike
module _ (l l' : List ℕ) where
  row_alike : (k : ℕ) → ((i : ℕ) → i < k → get_or l i 0 ≡ get_or l' i 0) → row_to l k ≡ row_to l' k
  unfolding row_to
  row_alike zero h = refl
  row_alike (suc k) h = ap₂ ◌*◌ (row_alike k (λ i b. h i (omega arith))) (h k (omega arith))

  pub asked_alike : {kind k r free : ℕ} {a b : List ℤ} → ((i : ℕ) → i < k → get_or l i 0 ≡ get_or l' i 0)
      → Asked kind l k r free a b → Asked kind l' k r free a b
  asked_alike {k = k} h A =
      record {
        few = A.few;
        row =
            record {
              new = λ i b. rw (sym (h i b), sym (row_alike i (λ j c. h j (omega arith)))) (A.row.new i b);
              odd = λ i b. rw (sym (h i b)) (A.row.odd i b);
              rising = λ i b. rw (sym (h i (omega arith)), sym (h (suc i) b)) (A.row.rising i b);
            };
        is_r = A.is_r ∙ row_alike k h;
        is_free = A.is_free;
        small = A.small;
        room = A.room;
        scratch = λ j e. rw (sym (row_alike j (λ i b. h i (omega arith)))) (A.scratch j e);
      }

-- the first k of a row by themselves
pub asked_front : {kind : ℕ} {l : List ℕ} {k r free : ℕ} {a b : List ℤ} → k ≤ length l → Asked kind l k r free a b
    → Asked kind (take k l) (length (take k l)) r free a b
asked_front {l = l} {k = k} enough A =
    rw (length-take-le k l enough) (asked_alike l (take k l) (λ i b. sym (get_or-take k l i 0 b)) A)

-- what is known of m = r / p and of phi(m), as they are computed
pub record OneFewer (kind : ℕ) (rest : List ℕ) (r m below p : ℕ) (a b : List ℤ) : Type 0 where
  pub above : 2 < p
  pub prime : Prime p
  pub new : ¬ (p ∣ m)
  pub pos : 0 < m
  pub small : m ≤ 65535
  pub is_r : r ≡ m * p
  pub is_below : below ≡ phi m
  pub index : r ≤ 65535
  pub room : half_degree kind r + 1 ≤ length a
  pub both : m + 2 ≤ length b
  pub ask : (kind' : ℕ) (c d : List ℤ) → length d ≡ length a → half_degree kind' m + 1 ≤ length c
      → Asked kind' rest (length rest) m below c d

module _ {kind : ℕ} {l : List ℕ} {r free : ℕ} {a b : List ℤ} (A : Asked kind l (length l) r free a b)
    (rest : List ℕ) (p : ℕ) (cut : (l ≡ rest ++ (p ∷ [])) × (length rest + 1 ≡ length l))
  where
    abbrev k : ℕ
    k = length rest

    abbrev P : ℕ
    P = get_or l k 0

    abbrev M : ℕ
    M = row_to l k

    -- p is the last, and the rest are those before it
    p_is : p ≡ P
    p_is =
        let at : k ≡ length rest + 0 = omega arith in
        sym (ap (λ x. get_or x k 0) cut.0 ∙ ap (λ i. get_or (rest ++ (p ∷ [])) i 0) at ∙ get_or-append-add rest (p ∷ []) 0 0)

    rest_same : (i : ℕ) → i < k → get_or l i 0 ≡ get_or rest i 0
    rest_same i b = ap (λ x. get_or x i 0) cut.0 ∙ get_or-append rest (p ∷ []) 0 i b

    count : length l ≡ suc k
    count = omega (arith, cut.1)

    row : OddRow l (suc k)
    row = subst (OddRow l) count A.row

    p-above : 2 < P
    p-above = row.odd k (omega arith)

    r_is : r ≡ M * P
    unfolding row_to
    r_is = A.is_r ∙ ap (row_to l) count

    free_is : free ≡ phi M * (P - 1)
    free_is = A.is_free ∙ ap phi (A.is_r ∙ ap (row_to l) count) ∙ row-phi l k row.new

    m_is : r / P ≡ M
    m_is = ap (λ x. x / P) r_is ∙ NatL.mul-div_cancel M (omega (arith, p-above))

    below_is : free / (P - 1) ≡ phi M
    below_is =
        let one : 0 < P - 1 = omega (arith, p-above) in
        ap (λ x. x / (P - 1)) free_is ∙ NatL.mul-div_cancel (phi M) one

    m_small : M ≤ 65535
    m_small =
        let one : 0 < P = omega (arith, p-above) in
        NatL.le_trans (NatL.le-mul_of_pos_right M one) (rw r_is at A.small)

    -- with one prime fewer, in b or a part of it, where a is the scratch
    asked : (kind' : ℕ) (c d : List ℤ) → length d ≡ length a → half_degree kind' M + 1 ≤ length c
        → Asked kind' rest k M (phi M) c d
    asked kind' c d same room =
        asked_alike l rest rest_same
        (record {
          few = omega (arith, A.few);
          row = odd_fewer l row;
          is_r = refl;
          is_free = refl;
          small = m_small;
          room = room;
          scratch = λ i e. rw same (NatL.le_trans (roomy l i (twice i e) kind) (rw (two i e) A.room));
        })
      where
        twice : (i : ℕ) → k ≡ suc i → OddRow l (suc (suc i))
        twice i e = subst (λ j. OddRow l (suc j)) e row

        two : (i : ℕ) → k ≡ suc i → row_to l (suc (suc i)) ≡ r
        two i e = let at : suc (suc i) ≡ length l = omega (arith, cut.1) in ap (row_to l) at ∙ sym A.is_r

    pub one_fewer : OneFewer kind rest r (r / p) (free / (p - 1)) p a b
    one_fewer =
        rw (p_is, m_is, below_is)
        (record {
          above = p-above;
          prime = (row.new k (omega arith)).0;
          new = (row.new k (omega arith)).1;
          pos = row-pos l k (fewer l row.new);
          small = m_small;
          is_r = r_is;
          is_below = refl;
          index = A.small;
          room = A.room;
          both = A.scratch k count;
          ask = asked;
        })

    -- by the largest prime, as it is read
    pub one_fewer_of : (q : ℕ) → q ≡ get_or l (length l - 1) 0 → OneFewer kind rest r (r / q) (free / (q - 1)) q a b
    one_fewer_of q e =
        let last : length l - 1 ≡ k = omega (arith, cut.1) in
        rw (e ∙ ap (λ i. get_or l i 0) last ∙ sym p_is) one_fewer

-- ---- both polynomials of m
module _ {kind : ℕ} {rest : List ℕ} {r m below p : ℕ} {a b : List ℤ} (O : OneFewer kind rest r m below p a b)
  where
    pub degree-le : (kind' : ℕ) → degree kind' m ≤ m
    unfolding degree
    degree-le kind' = go (eqb kind' 1)
      where
        go : (c : Bool) → cond c (phi m) (m - phi m) ≤ m
        go true = phi-le m
        go false = omega arith

    pub front-room : (kind' : ℕ) → degree kind' m + 1 ≤ length b
    front-room kind' = omega (arith, degree-le kind', O.both)

    pub front-half : (kind' : ℕ) → half_degree kind' m + 1 ≤ length b
    unfolding half_degree
    front-half kind' = omega (arith, front-room kind')

    pub rest-half : {n w : ℕ} → n ≡ length b → w ≡ degree (other_kind kind) m + 1 → half_degree kind m + 1 ≤ n - w
    unfolding half_degree
    rest-half e f = omega (arith, both_degrees kind m, O.both)

    pub rest-length : (q : List ℤ) (w : ℕ) → length q ≡ length b → w ≡ degree (other_kind kind) m + 1
        → length (take (length q - w) (drop w q)) ≡ length q - w
    rest-length q w e f = length-take-le (length q - w) (drop w q) (omega (arith, length-drop w q))

    pub rest-room : (q : List ℤ) (w : ℕ) → length q ≡ length b → w ≡ degree (other_kind kind) m + 1
        → half_degree kind m + 1 ≤ length (take (length q - w) (drop w q))
    rest-room q w e f = rw (rest-length q w e f) (rest-half e f)

    pub join : {c q a' : List ℤ} (x : List ℤ) (w : ℕ) → w ≡ degree (other_kind kind) m + 1
        → Filled 0 w (other_kind kind) m c q
        → length q ≡ length b → length x ≡ length q - w → length a' ≡ length a → Half kind m x
        → Joining kind m below p a' (put_mid w (length q - w) q x)
    unfolding entries
    join {c} {q} {a'} x w e F lq lx la half =
        record {
          pos = O.pos;
          prime = O.prime;
          new = O.new;
          small = rw (sym O.is_r) O.index;
          is_below = O.is_below;
          room = rw (sym O.is_r, la) O.room;
          both = omega (arith, put_length w (length q) q x within (omega arith) lx, lq, O.both);
          other =
              rw (sym e)
              (record {
                inside = λ i b.
                    put_before w (length q) q x within (omega arith) lx (0 + i) (omega arith) ∙ F.whole.inside i b;
                past = F.whole.past;
              });
          own = rw (sym e)
              (λ i b.
              put_in w (length q) q x within (omega arith) lx (w + i) (omega arith) (omega (arith, rest-half lq e))
              ∙ ap (λ n. get_or x n 0ℤ) (omega arith)
              ∙ half i b);
        }
      where
        within : w ≤ length q
        within = omega (arith, e, lq, front-room (other_kind kind))

-- ---- of no prime: F(1) = z - 1 and I(1) = 1
pub one-row : {kind : ℕ} {l : List ℕ} {r free : ℕ} {a b : List ℤ} → Asked kind l (length l) r free a b → length l ≡ 0
    → r ≡ 1
unfolding row_to
one-row {l = l} A e = A.is_r ∙ ap (row_to l) e

-- the lower half of either is its first entry
pub one_entry : (kind r : ℕ) (a : List ℤ) (v : ℤ) → r ≡ 1 → half_degree kind r + 1 ≤ length a → v ≡ polynomial kind 1 0
    → Half kind r (set a 0 v)
unfolding half_degree degree entries
one_entry kind r a v e room is i b =
    ap (λ n. get_or (set a 0 v) n 0ℤ) first
    ∙ get_or-set_same a 0 v 0ℤ (omega arith) ∙ is
    ∙ sym (ap₂ (polynomial kind) e first)
  where
    short : (c : Bool) → cond c (phi 1) (1 - phi 1) / 2 ≡ 0
    short true = rw phi-one refl
    short false = rw phi-one refl

    first : i ≡ 0
    first = omega (arith, ap (λ n. cond (eqb kind 1) (phi n) (n - phi n) / 2) e, short (eqb kind 1))

pub first_one : negsuc 0 ≡ polynomial 1 1 0
unfolding polynomial ⊖
first_one = sym (ap (λ f. f 0) F-one ∙ z^_1_zero 1 (omega arith))

pub inverse_one : pos 1 ≡ polynomial 2 1 0
unfolding polynomial constant
inverse_one = sym (ap (λ f. f 0) I-one)

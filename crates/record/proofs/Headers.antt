-- The header: its stores one after the other, the code it gives by itself from the tests that led there, and what a
-- right header has.
use Prim.Native.Nat.{◌+◌, ◌<◌, suc, ◌≤◌, ℕ}
use borrow.Author.Tests.{eq-eqb, ltb-false, eqb-false, le-ltb, ne_eqb, lt-ltb, eqb-true}
use lib.Dec.{ltb, eqb}
use lib.ListN.{length, length-append, set, length-set}
use lib.Seq.{sets}
use mathlib.Core.Bool.{Bool, not, true, cond, false}
use mathlib.Core.List.{List}
use mathlib.Core.Logic.{⊎_elim}
use mathlib.Core.Path.{◌≡◌, refl, ap, ◌∙◌, sym}
use native.Mathlib.Omega.{arith}
use Rattle.definitions.specs.Codes.{DONE, MARK, SHORT, CUT, RKIND, RWIDTH, RINDEX, RCOUNT}
use Rattle.definitions.specs.Requests.{known_kind}
use Rattle.record.specs.Header.{header_of, marked, fields, kind_in, width_in, index_in, count_in, degree_in}
use Rattle.record.specs.Header.{field_code, header_code}
use Rattle.widths.specs.Numbers.{bytes_of, one_of, widths}
use Rattle.widths.proofs.Least.{or_cases, width_bounds}
use Rattle.widths.proofs.Digits.{length-bytes_of}
use Rattle.record.proofs.Passes.{sets-append}

pub length_header : (mark kind w n count : ℕ) → length (header_of mark kind w n count) ≡ 10
unfolding header_of
length_header mark kind w n count = rw (length-append, length-bytes_of, length-bytes_of)

-- the header's stores
pub four_long : (b : List ℕ) (mark kind w : ℕ) → length (set (set (set (set b 0 0xC9) 1 mark) 2 kind) 3 w) ≡ length b
four_long b mark kind w = simp length-set

pub header_stored : (b b₁ b₂ : List ℕ) (mark kind w n count : ℕ)
    → b₁ ≡ sets (set (set (set (set b 0 0xC9) 1 mark) 2 kind) 3 w) 4 (bytes_of 2 n) →
    b₂ ≡ sets b₁ 6 (bytes_of 4 count) → b₂ ≡ sets b 0 (header_of mark kind w n count)
unfolding header_of
header_stored b b₁ b₂ mark kind w n count e₁ e₂ =
    let l = set (set (set (set b 0 0xC9) 1 mark) 2 kind) 3 w in
    let e : 4 + length (bytes_of 2 n) ≡ 6 = ap (λ (k : ℕ). 4 + k) (length-bytes_of 2 n) in
    rw (e₂, e₁) (sym (sets-append l 4 (bytes_of 2 n) (bytes_of 4 count)
    ∙ ap (λ (k : ℕ). sets (sets l 4 (bytes_of 2 n)) k (bytes_of 4 count)) e))

-- the header by itself
module _ (mark : ℕ) (bs : List ℕ) where
  pub header_short : length bs < 10 → header_code mark bs ≡ CUT
  unfolding header_code
  header_short s = simp (lt-ltb (length bs) 10 s)

  module _ (s : 10 ≤ length bs) where
    pub header_unmarked : marked mark bs ≡ false → header_code mark bs ≡ MARK
    unfolding header_code
    header_unmarked m = simp (le-ltb (length bs) 10 s, m)

    pub header_fields : marked mark bs ≡ true → header_code mark bs ≡ field_code fields bs
    unfolding header_code
    header_fields m = simp (le-ltb (length bs) 10 s, m)

-- its fields, by what stands in them
module _ (bs : List ℕ) where
  pub field_kind : known_kind (kind_in bs) ≡ false → field_code fields bs ≡ RKIND
  unfolding field_code
  field_kind k = simp k

  module _ (k : known_kind (kind_in bs) ≡ true) where
    pub field_width : one_of widths (width_in bs) ≡ false → field_code fields bs ≡ RWIDTH
    unfolding field_code
    field_width w = simp (k, w)

    module _ (w : one_of widths (width_in bs) ≡ true) where
      pub field_zero : index_in bs ≡ 0 → field_code fields bs ≡ RINDEX
      unfolding field_code
      field_zero z = simp (k, w, eq-eqb (index_in bs) 0 z)

      module _ (z : index_in bs ≡ 0 → ⊥) where
        pub field_count : (count_in bs ≡ degree_in bs + 1 → ⊥) → field_code fields bs ≡ RCOUNT
        unfolding field_code
        field_count c = simp (k, w, ne_eqb (index_in bs) 0 z, ne_eqb (count_in bs) (degree_in bs + 1) c)

        pub fields-right : count_in bs ≡ degree_in bs + 1 → field_code fields bs ≡ DONE
        unfolding field_code
        fields-right c = simp (k, w, ne_eqb (index_in bs) 0 z, eq-eqb (count_in bs) (degree_in bs + 1) c)

-- and back: what a right header has
pub record Right (mark : ℕ) (bs : List ℕ) : Type 0 where
  pub long : 10 ≤ length bs
  pub is_marked : marked mark bs ≡ true
  pub kind : known_kind (kind_in bs) ≡ true
  pub wide : one_of widths (width_in bs) ≡ true
  pub index : index_in bs ≡ 0 → ⊥
  pub count : count_in bs ≡ degree_in bs + 1

-- what holds of each code that a header gives, and of DONE where it is right, holds of its code
header_cases : (P : ℕ → Type 0) (m : ℕ) (bs : List ℕ) → P CUT → P MARK → P RKIND → P RWIDTH → P RINDEX → P RCOUNT
    → (Right m bs → P DONE) → P (header_code m bs)
unfolding header_code field_code
header_cases P m bs cut mark kind wide index count done =
    go (ltb (length bs) 10) refl (marked m bs) refl (known_kind (kind_in bs)) refl (one_of widths (width_in bs)) refl
    (eqb (index_in bs) 0) refl (eqb (count_in bs) (degree_in bs + 1)) refl
  where
    go : (s : Bool) → ltb (length bs) 10 ≡ s → (q : Bool) → marked m bs ≡ q → (k : Bool) → known_kind (kind_in bs) ≡ k
        → (w : Bool) → one_of widths (width_in bs) ≡ w → (z : Bool) → eqb (index_in bs) 0 ≡ z
        → (c : Bool) → eqb (count_in bs) (degree_in bs + 1) ≡ c →
        P (cond s CUT (cond (not q) MARK (cond k (cond w (cond (not z) (cond c DONE RCOUNT) RINDEX) RWIDTH) RKIND)))
    go true es q em k ek w ew z ez c ec = cut
    go false es false em k ek w ew z ez c ec = mark
    go false es true em false ek w ew z ez c ec = kind
    go false es true em true ek false ew z ez c ec = wide
    go false es true em true ek true ew true ez c ec = index
    go false es true em true ek true ew false ez false ec = count
    go false es true em true ek true ew false ez true ec = done (record {
      long = ltb-false (length bs) 10 es;
      is_marked = em;
      kind = ek;
      wide = ew;
      index = eqb-false (index_in bs) 0 ez;
      count = eqb-true (count_in bs) (degree_in bs + 1) ec;
    })

pub right : (mark : ℕ) (bs : List ℕ) → header_code mark bs ≡ DONE → Right mark bs
right mark bs =
    header_cases (λ code. code ≡ DONE → Right mark bs) mark bs wrong wrong wrong wrong wrong wrong (λ r e. r)
  where
    wrong : {k : ℕ} → suc k ≡ 0 → Right mark bs
    wrong e = absurd (omega arith)

pub header_codes : (mark : ℕ) (bs : List ℕ) → header_code mark bs ≡ SHORT → ⊥
header_codes mark bs =
    header_cases (λ code. code ≡ SHORT → ⊥) mark bs (λ e. omega arith) (λ e. omega arith) (λ e. omega arith)
    (λ e. omega arith) (λ e. omega arith) (λ e. omega arith) (λ r e. omega arith)

pub kind_small : (kind : ℕ) → known_kind kind ≡ true → kind ≤ 2
unfolding known_kind
kind_small kind k =
    ⊎_elim (λ e. let s : kind ≡ 1 = eqb-true kind 1 e in omega arith) (λ e. let s : kind ≡ 2 = eqb-true kind 2 e in
    omega arith) (or_cases (eqb kind 1) (eqb kind 2) k)

pub in_bounds : (mark : ℕ) (bs : List ℕ) (w : ℕ) → w ≡ width_in bs → header_code mark bs ≡ DONE → (0 < w) × (w ≤ 8)
in_bounds mark bs w e h = rw e (width_bounds (width_in bs) (right mark bs h).wide)

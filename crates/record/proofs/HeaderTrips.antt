-- The header there and back: what stands in a header is what it was made of, and a right header is the header of what
-- stands in it, byte for byte.
use Prim.Native.Nat.{◌+◌, ◌≤◌, ℕ}
use borrow.Author.Tests.{eq-eqb, eqb-true}
use lib.Dec.{eqb}
use lib.ListN.{length, get_or, drop, take, length-drop}
use lib.Seq.{drop-cons, length-take-le, take-add, drop-drop}
use mathlib.Core.Bool.{◌&&◌, Bool, true, true≢false, false}
use mathlib.Core.List.{◌++◌, [], ◌∷◌, List}
use mathlib.Core.Path.{◌≡◌, refl, ap₂, ap, ◌∙◌, sym}
use native.Mathlib.Omega.{arith}
use native.Mathlib.Nat.{add-zero}
use Rattle.record.specs.Header.{header_of, marked, kind_in, width_in, index_in, count_in}
use Rattle.widths.specs.Numbers.{bytes_of, number}
use Rattle.widths.proofs.Digits.{Bytes, bytes_take, bytes_drop, number_bytes, number_less, bytes_number}
use Rattle.record.proofs.Headers.{Right}
use Rattle.record.proofs.Passes.{byte_in}

-- what stands in a header, whatever comes after it
module _ (mark kind w n count : ℕ) (rest : List ℕ) where
  pub marked_back : marked mark (header_of mark kind w n count ++ rest) ≡ true
  unfolding marked header_of
  marked_back = eq-eqb mark mark refl

  pub kind_back : kind_in (header_of mark kind w n count ++ rest) ≡ kind
  unfolding header_of number
  kind_back = add-zero kind

  pub width_back : width_in (header_of mark kind w n count ++ rest) ≡ w
  unfolding header_of number
  width_back = add-zero w

  pub index_back : n ≤ 65535 → index_in (header_of mark kind w n count ++ rest) ≡ n
  unfolding header_of bytes_of number
  index_back h = number_bytes 2 n (omega arith)

  pub count_back : count ≤ 65536 → count_in (header_of mark kind w n count ++ rest) ≡ count
  unfolding header_of bytes_of number
  count_back h = number_bytes 4 count (omega arith)

-- and the other way: the header's bytes are those of its fields
four : (bs : List ℕ) → 10 ≤ length bs → take 4 bs ≡ get_or bs 0 0 ∷ get_or bs 1 0 ∷ get_or bs 2 0 ∷ get_or bs 3 0 ∷ []
four bs h =
    let all : bs ≡ get_or bs 0 0 ∷ get_or bs 1 0 ∷ get_or bs 2 0 ∷ get_or bs 3 0 ∷ drop 4 bs =
    drop-cons bs 0 0 (omega arith) ∙ ap (◌∷◌ (get_or bs 0 0)) (drop-cons bs 1 0 (omega arith)
    ∙ ap (◌∷◌ (get_or bs 1 0)) (drop-cons bs 2 0 (omega arith)
    ∙ ap (◌∷◌ (get_or bs 2 0)) (drop-cons bs 3 0 (omega arith)))) in
    ap (take 4) all

pub and_both : (a b : Bool) → (a && b) ≡ true → (a ≡ true) × (b ≡ true)
and_both true b e = (refl, e)
and_both false b e = absurd (true≢false (sym e))

-- w bytes that stand at a place are those of their number
part_same : (w at : ℕ) (bs : List ℕ) → at + w ≤ length bs → Bytes bs → bytes_of w (number (take w (drop at bs)))
    ≡ take w (drop at bs)
part_same w at bs h p =
    bytes_number w (take w (drop at bs)) (length-take-le w (drop at bs) (rw length-drop (omega arith)))
    (bytes_take w (drop at bs) (bytes_drop at bs p))

pub header_same : (mark : ℕ) (bs : List ℕ) → Bytes bs → Right mark bs
    → header_of mark (kind_in bs) (width_in bs) (index_in bs) (count_in bs)
    ≡ take 10 bs
unfolding header_of marked
header_same mark bs p r =
    let h = r.long in
    let m = and_both (eqb (get_or bs 0 0) 0xC9) (eqb (get_or bs 1 0) mark) r.is_marked in
    let k = get_or bs 2 0 in
    let w = get_or bs 3 0 in
    let six : take 6 (drop 4 bs) ≡ take 2 (drop 4 bs) ++ take 4 (drop 6 bs) = take-add 2 4 (drop 4 bs)
    ∙ ap (λ (l : List ℕ). take 2 (drop 4 bs) ++ take 4 l) (drop-drop 2 4 bs) in
    ap₂ (λ (x y : ℕ). 0xC9 ∷ mark ∷ x ∷ y ∷ bytes_of 2 (index_in bs) ++ bytes_of 4 (count_in bs))
    (byte_in bs 2 (omega arith)) (byte_in bs 3 (omega arith))
    ∙ ap₂ (λ (x y : List ℕ). 0xC9 ∷ mark ∷ k ∷ w ∷ x ++ y) (part_same 2 4 bs (omega arith) p)
    (part_same 4 6 bs (omega arith) p)
    ∙ ap₂ (λ (x y : ℕ). x ∷ y ∷ k ∷ w ∷ take 2 (drop 4 bs) ++ take 4 (drop 6 bs))
    (sym (eqb-true (get_or bs 0 0) 0xC9 m.0))
    (sym (eqb-true (get_or bs 1 0) mark m.1))
    ∙ sym (take-add 4 6 bs ∙ ap₂ ◌++◌ (four bs h) six)

pub index_small : (bs : List ℕ) → 10 ≤ length bs → Bytes bs → index_in bs ≤ 65535
index_small bs h p =
    let b = number_less 2 (take 2 (drop 4 bs)) (length-take-le 2 (drop 4 bs) (rw length-drop (omega arith)))
    (bytes_take 2 (drop 4 bs) (bytes_drop 4 bs p)) in
    omega arith

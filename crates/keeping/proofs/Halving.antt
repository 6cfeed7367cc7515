-- A record of F(n), n with an odd prime, that reads well: it has those coefficients exactly where its first half is
-- theirs and its halves match (`halves_differ`, `halves_same`), since those of F(n) do.
use Prim.Native.Nat.{ℕ, ◌+◌, ◌*◌, ◌≤◌}
use mathlib.Core.Path.{◌≡◌, refl, sym, ap, ap₂, ◌∙◌}
use mathlib.Core.Bool.{Bool, true, false, not, not-not, ◌&&◌, true≢false}
use mathlib.Core.List.{List, ◌++◌}
use mathlib.Core.Logic.{◌≢◌}
use native.Mathlib.Omega.{arith}
use native.Mathlib.Nat.{pos_of_ne-zero, mul-le-mul_right}
use borrow.Author.Tests.{ne_eqb, eqb-false}
use lib.ListN.{length, take, drop}
use lib.Seq.{length-take-le, take_at}
use lib.Dec.{eqb}
use lib.IntN.{ℤ}
use Rattle.definitions.specs.Codes.{DONE}
use Rattle.definitions.specs.Numbers.{r_of, product_of_to, odd_prime_of, is_prime}
use Rattle.definitions.specs.Answer.{coefficients, height, height_of}
use Rattle.definitions.specs.Halves.{half_of, first_half, negates, rebuilt, uneven}
use Rattle.step_laws.specs.Tests.{not_false_is}
use Rattle.even_halves.specs.Halves.{rebuilt-half, height-rebuilt}
use Rattle.even_halves.specs.Even.{never_uneven}
use Rattle.widths.specs.Numbers.{top, coefficients_at, widths, one_of, least_of}
use Rattle.widths.proofs.Digits.{Bytes}
use Rattle.definitions.specs.Polynomials.{degree}
use Rattle.record.specs.Header.{kind_in, width_in, index_in, count_in, degree_in}
use Rattle.record.proofs.HeaderTrips.{and_both}
use Rattle.half_passes.proofs.Places.{coefficients-take}
use Rattle.forms.specs.declared.Form.TheVariants.{Whole}
use Rattle.forms.specs.Format.{stored_in, coefficients_in, size_in}
use Rattle.forms.proofs.Done.{stored_fits}
use Rattle.forms.proofs.ReadWrite.{length_whole}
use Rattle.shelf.specs.Format.{look_code}
use Rattle.keeping.specs.Keepable.{differ_to, another}
use Rattle.keeping.specs.Trying.{Comparable, stands_in}
use Rattle.keeping.proofs.Comparing.{own, header, fits, length-own, own_same, same_own, own_fits, same_alike}
use Rattle.keeping.proofs.Comparing.{alike_same, another_wide}

pub counted-degree : (bs : List ℕ) → look_code bs ≡ DONE → kind_in bs ≡ 1 → count_in bs ≡ degree 1 (index_in bs) + 1
unfolding degree_in
counted-degree bs good kind = (header bs good).count ∙ ap (λ (k : ℕ). degree k (index_in bs) + 1) kind

-- as the look at both halves asks
pub stored-right : (bs : List ℕ) → look_code bs ≡ DONE → (w k : ℕ) → w ≡ width_in bs → k ≡ count_in bs
    → (one_of widths w ≡ true) × (10 + k * w ≤ length bs) × (height_of (coefficients_at w k (drop 10 bs)) ≤ top w)
unfolding size_in stored_in
stored-right bs good w k ew ek =
    rw (ew, ek) ((header bs good).wide, (fits bs good).long, (stored_fits Whole bs (count_in bs) (fits bs good)).takes)

module _ (bs : List ℕ) (bytes : Bytes bs) (good : look_code bs ≡ DONE) (kind : kind_in bs ≡ 1)
    (above : r_of (index_in bs) ≢ 1) where
  abbrev stored : List ℤ
  stored = coefficients_in Whole bs

  copied : negates (kind_in bs) (index_in bs) ≡ false
  unfolding negates r_of product_of_to odd_prime_of is_prime
  copied = rw kind (ne_eqb (index_in bs) 1 (λ e. above (ap r_of e)))

  own_even : uneven false (own bs) ≡ false
  own_even =
      sym (ap (λ (b : Bool). uneven b (own bs)) copied)
      ∙ never_uneven (kind_in bs) (index_in bs) (pos_of_ne-zero (header bs good).index)

  -- the first half of each
  long-stored : length stored ≡ count_in bs
  long-stored = length_whole Whole bs

  half_within : half_of (count_in bs) ≤ count_in bs
  half_within = omega (arith, (header bs good).count)

  pub half-own : length (first_half (own bs)) ≡ half_of (count_in bs)
  unfolding first_half
  half-own =
      length-take-le (half_of (length (own bs))) (own bs) (rw (length-own bs bytes good) half_within)
      ∙ ap half_of (length-own bs bytes good)

  half-stored : length (first_half stored) ≡ half_of (count_in bs)
  unfolding first_half
  half-stored = length-take-le (half_of (length stored)) stored (rw long-stored half_within) ∙ ap half_of long-stored

  stands_half : coefficients_at (width_in bs) (half_of (count_in bs)) (drop 10 bs) ≡ first_half stored
  unfolding first_half coefficients_in stored_in
  stands_half =
      sym (coefficients-take (width_in bs) (half_of (count_in bs)) (count_in bs) (drop 10 bs) half_within)
      ∙ ap (λ (k : ℕ). take (half_of k) stored) (sym long-stored)

  own-rebuilt : rebuilt false (length (own bs)) (first_half (own bs)) ≡ own bs
  own-rebuilt = rebuilt-half false (own bs) own_even

  height-half : height_of (own bs) ≡ height_of (first_half (own bs))
  height-half =
      ap height_of (sym own-rebuilt)
      ∙ height-rebuilt false (length (own bs)) (first_half (own bs))
      (half-own ∙ ap half_of (sym (length-own bs bytes good)))

  -- where a half, or both, differ
  is_another : (another bs ≡ false → ⊥) → false ≡ not (another bs)
  is_another u = sym (ap not (not_false_is (another bs) u))

  module _ (w : ℕ) (ew : w ≡ width_in bs) (ds : List ℤ) (e : ds ≡ first_half (own bs)) where
    compared : differ_to (length ds) (coefficients_at w (length ds) (drop 10 bs)) ds
        ≡ differ_to (length (first_half stored)) (first_half stored) (first_half (own bs))
    compared = rw (e, ew, half-own, half-stored, stands_half) refl

    pub halves_differ : differ_to (length ds) (coefficients_at w (length ds) (drop 10 bs)) ds ≡ true
        → false ≡ not (another bs)
    halves_differ d =
        is_another (λ same. true≢false (sym d ∙ compared
        ∙ same_alike (first_half stored) (first_half (own bs)) (ap first_half (own_same bs bytes good same)) _))

    halves : differ_to (length ds) (coefficients_at w (length ds) (drop 10 bs)) ds ≡ false
        → first_half stored ≡ first_half (own bs)
    halves d = alike_same (first_half stored) (first_half (own bs)) (half-stored ∙ sym half-own) (sym compared ∙ d)

    -- then it hangs on whether the record's halves match
    pub halves_same : differ_to (length ds) (coefficients_at w (length ds) (drop 10 bs)) ds ≡ false
        → not (uneven false (coefficients_at w (count_in bs) (drop 10 bs))) ≡ not (another bs)
    unfolding coefficients_in stored_in
    halves_same d = rw ew (ap not (go (uneven false stored) refl))
      where
        go : (b : Bool) → uneven false stored ≡ b → uneven false stored ≡ another bs
        go true u =
            u ∙ sym (not_false_is (another bs)
            (λ same. true≢false (sym u ∙ ap (uneven false) (own_same bs bytes good same) ∙ own_even)))
        go false u =
            u ∙ sym (same_own bs (sym (rebuilt-half false stored u)
            ∙ ap₂ (rebuilt false) (long-stored ∙ sym (length-own bs bytes good)) (halves d) ∙ own-rebuilt))

  -- as the function compares, by the height of what was made
  module _ (h : ℕ) (eh : h ≡ height (kind_in bs) (index_in bs)) (ds : List ℤ) (e : ds ≡ first_half (own bs)) where
    pub comparable_half : Comparable bs h ds
    unfolding size_in
    comparable_half one = (
      rw (e, half-own) (omega (arith, mul-le-mul_right (width_in bs) half_within, (fits bs good).long)),
      rw e (omega (arith, height-half, own_fits bs bytes good (sym (ap (least_of widths) eh) ∙ one))),
    )

    abbrev differs : Bool
    differs = differ_to (length ds) (coefficients_at (width_in bs) (length ds) (drop 10 bs)) ds

    -- where the first half doesn't stand in the record it is another
    pub half_unlike : stands_in bs h ds ≡ false → false ≡ not (another bs)
    half_unlike = go (eqb (least_of widths h) (width_in bs)) refl
      where
        go : (t : Bool) → eqb (least_of widths h) (width_in bs) ≡ t → (t && not differs) ≡ false
            → false ≡ not (another bs)
        go true _ d = halves_differ (width_in bs) refl ds e (sym (not-not differs) ∙ ap not d)
        go false f _ = another_wide bs bytes good (λ u. eqb-false _ _ f (ap (least_of widths) eh ∙ u))

    pub half_stands : stands_in bs h ds ≡ true
        → not (uneven false (coefficients_at (width_in bs) (count_in bs) (drop 10 bs))) ≡ not (another bs)
    half_stands so =
        halves_same (width_in bs) refl ds e
        (sym (not-not differs) ∙ ap not (and_both (eqb (least_of widths h) (width_in bs)) (not differs) so).1)

  -- what is made, in front of the rest of the room, is that first half
  pub half-front : (n : ℕ) → n ≡ index_in bs → (k : ℕ) → k ≡ half_of (count_in bs) → (made behind : List ℤ)
      → made ≡ first_half (coefficients 1 n) → take k (made ++ behind) ≡ first_half (own bs)
  half-front n en k ek made behind is =
      let e : made ≡ first_half (own bs) = is ∙ ap first_half (ap₂ coefficients (sym kind) en) in
      take_at made behind k (ap length e ∙ half-own ∙ sym ek) ∙ e

  pub half-height : (n : ℕ) → n ≡ index_in bs → (h : ℕ) → h ≡ height 1 n → h ≡ height (kind_in bs) (index_in bs)
  half-height n en h is = is ∙ ap₂ height (sym kind) en

-- A record that reads well beside the polynomial of its kind and index: none of the coefficients differs exactly where
-- the lists are equal (`alike_same`, `same_alike`); both have as many entries, and where they have not one width they
-- differ (`another_wide`). The request for that polynomial delivers it (`made-height`, `made_is`).
use Prim.Native.Nat.{ℕ, zero, suc, ◌+◌, ◌*◌, ◌≤◌, ◌<◌}
use mathlib.Core.Path.{◌≡◌, refl, sym, ap, ◌∙◌}
use mathlib.Core.Bool.{Bool, true, false, not, ◌&&◌, ◌||◌}
use mathlib.Core.List.{List}
use native.Mathlib.Omega.{arith}
use native.Mathlib.Nat.{pos_of_ne-zero}
use native.Mathlib.Decide.{ℕ_discrete}
use native.Mathlib.Numerals.{add-one}
use lib.ListN.{length, take, drop}
use lib.Dec.{eqb}
use borrow.Author.Tests.{eqb-false}
use lib.Seq.{ext_get_or, take_at}
use lib.IntN.{ℤ, pos}
use Rattle.definitions.specs.Codes.{DONE}
use Rattle.definitions.specs.Steps.{entries, largest}
use Rattle.definitions.specs.Polynomials.{degree, polynomial}
use Rattle.definitions.specs.Requests.{good_index, written}
use Rattle.definitions.specs.Answer.{coefficients, height, height_of}
use Rattle.definitions.specs.Halves.{differ}
use Rattle.step_laws.specs.Firsts.{length-firsts}
use Rattle.step_laws.specs.Tests.{neither, not_false_is}
use Rattle.even_halves.specs.Halves.{same_differ, differ_same}
use Rattle.index.proofs.Laws.{good_index_lem}
use Rattle.widths.specs.Numbers.{top, coefficients_at, widths, one_of, least_of, width}
use Rattle.widths.proofs.Digits.{Bytes}
use Rattle.widths.proofs.Least.{width_bounds, width_fits}
use Rattle.record.specs.Header.{kind_in, width_in, index_in, count_in, degree_in}
use Rattle.record.proofs.Headers.{Right, right}
use Rattle.record.proofs.HeaderTrips.{index_small}
use Rattle.answers.specs.declared.Answer.{Answer}
use Rattle.answers.specs.Polynomial.{answered, answer, leaves}
use Rattle.never_over.proofs.Delivered.{answer_delivered, leaves_delivered}
use Rattle.forms.specs.declared.Form.TheVariants.{Whole}
use Rattle.forms.specs.Format.{mark, stored_in, coefficients_in, size_in}
use Rattle.forms.proofs.Done.{Read_right, looked}
use Rattle.forms.proofs.ReadWrite.{length_whole, width-whole}
use Rattle.shelf.specs.Format.{look_code}
use Rattle.keeping.specs.Keepable.{differ_to, another}
use Rattle.keeping.specs.Trying.{Comparable, stands_in}

-- none differs
module _ (cs ds : List ℤ) where
  pub same_alike : cs ≡ ds → (k : ℕ) → differ_to k cs ds ≡ false
  unfolding differ_to
  same_alike e zero = refl
  same_alike e (suc k) = rw (same_alike e k, same_differ _ _ (ap (λ l. entries l k) e))

  each_alike : (k : ℕ) → differ_to k cs ds ≡ false → (i : ℕ) → i < k → entries cs i ≡ entries ds i
  unfolding differ_to
  each_alike zero e i l = absurd (omega arith)
  each_alike (suc k) e i l = go (ℕ_discrete i k) (each_alike k (neither _ _ e).0 i)
    where
      go : Dec (i ≡ k) → (i < k → entries cs i ≡ entries ds i) → entries cs i ≡ entries ds i
      go (yes s) below = rw s (differ_same (entries cs k) (entries ds k) (neither (differ_to k cs ds) _ e).1)
      go (no u) below = below (omega arith)

  pub alike_same : length cs ≡ length ds → differ_to (length cs) cs ds ≡ false → cs ≡ ds
  unfolding entries
  alike_same long e = ext_get_or _ cs ds long (λ i l. each_alike (length cs) e i l)

-- a loop that looks: one more, and on from one that was found
pub differ-next : (cs ds : List ℤ) (i : ℕ) (before found here : Bool) → (before || found) ≡ differ_to i cs ds
    → here ≡ differ (entries cs i) (entries ds i) → (before || (found || here)) ≡ differ_to (i + 1) cs ds
unfolding differ_to
differ-next cs ds i before found here e h = rw add-one (or_assoc before found here ∙ rw (e, h) refl)
  where
    or_assoc : (a b c : Bool) → (a || (b || c)) ≡ ((a || b) || c)
    or_assoc true b c = refl
    or_assoc false b c = refl

pub differ_on : (cs ds : List ℤ) (j k : ℕ) → differ_to j cs ds ≡ true → j ≤ k → differ_to k cs ds ≡ true
unfolding differ_to
differ_on cs ds zero zero e l = e
differ_on cs ds (suc j) zero e l = absurd (omega arith)
differ_on cs ds j (suc k) e l = go (ℕ_discrete j (suc k)) (differ_on cs ds j k e)
  where
    go : Dec (j ≡ suc k) → (j ≤ k → differ_to k cs ds ≡ true) → differ_to (suc k) cs ds ≡ true
    go (yes s) more = ap (λ n. differ_to n cs ds) (sym s) ∙ e
    go (no u) more = rw (more (omega arith)) refl

-- the coefficients of its kind and index
abbrev pub own : List ℕ → List ℤ
own bs = coefficients (kind_in bs) (index_in bs)

pub same_own : (bs : List ℕ) → coefficients_in Whole bs ≡ own bs → another bs ≡ false
unfolding another
same_own bs e = same_alike (coefficients_in Whole bs) (own bs) e (count_in bs)

module _ (bs : List ℕ) (good : look_code bs ≡ DONE) where
  pub fits : Read_right Whole bs (count_in bs)
  fits = looked Whole bs good

  pub header : Right (mark Whole) bs
  header = right (mark Whole) bs fits.header

module _ (bs : List ℕ) (bytes : Bytes bs) (good : look_code bs ≡ DONE) where
  pub good_in : good_index (index_in bs) ≡ true
  good_in = good_index_lem (index_in bs) (pos_of_ne-zero (header bs good).index)
      (index_small bs (header bs good).long bytes)

  pub length-own : length (own bs) ≡ count_in bs
  unfolding coefficients degree_in
  length-own =
      length-firsts (suc (degree (kind_in bs) (index_in bs))) (polynomial (kind_in bs) (index_in bs))
      ∙ sym (add-one (degree (kind_in bs) (index_in bs))) ∙ sym (header bs good).count

  -- it is another exactly where the lists are not equal
  pub own_same : another bs ≡ false → coefficients_in Whole bs ≡ own bs
  unfolding another
  own_same e =
      let long = length_whole Whole bs in
      alike_same (coefficients_in Whole bs) (own bs) (long ∙ sym length-own) (rw long e)

  pub another_wide : (least_of widths (height (kind_in bs) (index_in bs)) ≡ width_in bs → ⊥) → false ≡ not (another bs)
  unfolding height width
  another_wide u =
      sym (ap not (not_false_is (another bs)
      (λ e. u (sym (ap width (own_same e)) ∙ width-whole Whole bs (count_in bs) bytes (fits bs good)))))

  pub own_fits : least_of widths (height (kind_in bs) (index_in bs)) ≡ width_in bs → height_of (own bs) ≤ top (width_in bs)
  unfolding height width
  own_fits e =
      (width_fits (own bs) (width_in bs) (sym e) (width_bounds (width_in bs) (header bs good).wide).0).takes

  -- the request, with room
  module _ (l : List ℤ) (room : count_in bs ≤ length l) where
    fits_room : degree (kind_in bs) (index_in bs) < length l
    unfolding degree_in
    fits_room = omega (arith, (header bs good).count)

    module _ (kind n : ℕ) (ek : kind ≡ kind_in bs) (en : n ≡ index_in bs) where
      pub made-height : {a : Answer} → a ≡ answer kind n (pos largest) (pos largest) (length l)
          → a.height ≡ height (kind_in bs) (index_in bs)
      unfolding answered
      made-height e =
          ap (λ x. x.height)
          (rw (ek, en) at e
          ∙ answer_delivered (kind_in bs) (index_in bs) (header bs good).kind good_in (length l) fits_room)

      pub made_is : {m : List ℤ} → m ≡ leaves kind n (pos largest) (pos largest) l → (k : ℕ) → k ≡ count_in bs
          → take k m ≡ own bs
      unfolding written
      made_is e k ec =
          ap (take k) (rw (ek, en) at e
          ∙ leaves_delivered (kind_in bs) (index_in bs) (header bs good).kind good_in l fits_room)
          ∙ take_at (own bs) (drop (length (own bs)) l) k (length-own ∙ sym ec)

  -- as the function compares, where both have one width; else they differ
  module _ (h : ℕ) (eh : h ≡ height (kind_in bs) (index_in bs)) (ds : List ℤ) (e : ds ≡ own bs) where
    pub comparable : Comparable bs h ds
    unfolding size_in
    comparable one =
        rw (e, length-own) ((fits bs good).long, own_fits (sym (ap (least_of widths) eh) ∙ one))

    compared : differ_to (length ds) (coefficients_at (width_in bs) (length ds) (drop 10 bs)) ds ≡ another bs
    unfolding another coefficients_in stored_in
    compared = rw (e, length-own) refl

    pub whole_stands : stands_in bs h ds ≡ not (another bs)
    whole_stands = go (eqb (least_of widths h) (width_in bs)) refl
      where
        go : (t : Bool) → eqb (least_of widths h) (width_in bs) ≡ t
            → (t && not (differ_to (length ds) (coefficients_at (width_in bs) (length ds) (drop 10 bs)) ds))
            ≡ not (another bs)
        go true _ = ap not compared
        go false f = another_wide (λ u. eqb-false _ _ f (ap (least_of widths) eh ∙ u))

-- The product of the first i factors: the start, what is asked of one factor more, what it comes to, and the end.
use Prim.Native.Nat.{ℕ, suc, ◌+◌, ◌-◌, ◌<◌, ◌≤◌}
use mathlib.Core.Path.{◌≡◌, sym, ◌∙◌, ap, ap₂, fun_ext}
use mathlib.Core.Bool.{true, false, not, ◌||◌, not-not}
use mathlib.Core.List.{List, [], ◌∷◌}
use native.Mathlib.Omega.{arith}
use native.Mathlib.Numerals.{add-one}
use lib.ListN.{length, take, get_or, length-replicate}
use lib.Seq.{take_all, take-suc}
use lib.IntN.{ℤ, pos, nat_abs}
use Rattle.definitions.specs.Integers.{◌⊗◌, 0ℤ}
use Rattle.definitions.specs.Series.{◌·◌, firsts}
use Rattle.definitions.specs.Numbers.{phi}
use Rattle.definitions.specs.Polynomials.{F, degree}
use Rattle.definitions.specs.Steps.{entries, in_range, some_outside, largest}
use Rattle.definitions.specs.Requests.{good_index, zeros}
use Rattle.definitions.specs.Answer.{coefficients, height_of, height, peak_of, peak, gain_of, gain}
use Rattle.definitions.specs.Cascades.{product, total_degree, product_coefficients, product_over}
use Rattle.definitions.specs.Cascades.{firsts_over}
use Rattle.series.specs.Mirror.{mirror}
use Rattle.step_laws.specs.Tests.{by_order, neither}
use Rattle.step_laws.specs.Firsts.{length-firsts, firsts_here, firsts_past}
use Rattle.step_laws.specs.Outside.{inside_each}
use Rattle.step_laws.specs.Signed.{range_in}
use Rattle.cyclotomic.specs.Heights.{entry_height, height_least}
use Rattle.next_factor.specs.Times.{signed}
use Rattle.std.specs.Prelude.{Result, Ok, is_err, IsErr}
use Rattle.std.proofs.lemmas.Result.{IfOk-from_err}
use Rattle.exact_products.specs.declared.Over.{Over}
use Rattle.next_factor.specs.Taking.{First, Known, Room, Extended, Taken}
use Rattle.next_factor.specs.declared.SoFar.{SoFar}
use Rattle.next_factor.proofs.Delivered.{height_fits, gain-whole}
use Rattle.next_factor.proofs.Mirroring.{turned-factor}
use Rattle.index.proofs.Laws.{index_good}
use Rattle.cascade.specs.Making.{Roomy, ProductOf, ProductIs}
use Rattle.cascade.proofs.Lists.{good_part, good_at, longest_at, degree-part, degree_more, product_more}
use Rattle.cascade.proofs.Lists.{monic_product, gain_more, stays_over}
use Rattle.cascade.proofs.OneFactor.{one-degree, one_product, one-coefficients, one_fine}

pub record Underway (ns : List ℕ) (b scratch : List ℤ) (so : SoFar) (i : ℕ) : Type 0 where
  pub roomy : Roomy ns b scratch
  pub at : i ≤ length ns
  pub fine : firsts_over i ns ≡ false
  pub leaves : b ≡ firsts (suc (total_degree ns)) (product (take i ns))
  pub have : so.have ≡ suc (total_degree (take i ns))
  pub height : so.height ≡ height_of (product_coefficients (take i ns))
  pub peak : so.peak ≡ peak_of (product_coefficients (take i ns))
  pub gain : pos so.gain ≡ gain_of (product_coefficients (take i ns))
  pub inside : so.height ≤ largest
  pub small : so.gain ≤ largest
  pub mirrored : mirror (total_degree (take i ns)) (product (take i ns)) ≡ signed so.turned (product (take i ns))

-- ---- the start: the first factor
module _ {ns : List ℕ} (some : 0 < length ns) {l scratch : List ℤ} (R : Roomy ns l scratch) where
  abbrev n : ℕ
  n = get_or ns 0 0

  good : good_index n ≡ true
  good = good_at ns 0 some R.good

  one-first : take 1 ns ≡ n ∷ []
  one-first = take-suc ns 0 0 some

  pub first_asks : (b : List ℤ) → b ≡ zeros (length l)
      → (good_index (get_or ns 0 0) ≡ true) × (phi (get_or ns 0 0) < length b) × (b ≡ zeros (length b))
  unfolding zeros
  first_asks b e =
      let len : length b ≡ length l = ap length e ∙ length-replicate (length l) 0ℤ in (
        good,
        omega (arith, len, R.room, degree_more ns 0 some, degree-part ns 1),
        e ∙ ap zeros (sym len),
      )

  module _ {b : List ℤ} (e : b ≡ zeros (length l)) {m : List ℤ} {r : SoFar} (T : First (get_or ns 0 0) b m r) where
    size : length b ≡ suc (total_degree ns)
    unfolding zeros
    size = ap length e ∙ length-replicate (length l) 0ℤ ∙ R.room

    first-coefficients : product_coefficients (take 1 ns) ≡ coefficients 1 n
    first-coefficients = ap product_coefficients one-first ∙ one-coefficients n

    product_is : product (take 1 ns) ≡ F n
    product_is = ap product one-first ∙ one_product n

    degree_is : total_degree (take 1 ns) ≡ phi n
    unfolding degree
    degree_is = ap total_degree one-first ∙ one-degree n

    small_gain : r.gain ≤ largest
    small_gain =
        let (k, whole, few) = gain-whole n good in
        omega (arith, ap nat_abs (T.gain ∙ whole))

    pub underway_first : Underway ns m scratch r 1
    unfolding firsts_over height peak gain
    underway_first =
        record {
          roomy = record {
            good = R.good;
            room = ap length T.leaves ∙ length-firsts (length b) (F n) ∙ size;
            factor = R.factor;
          };
          at = some;
          fine = ap product_over one-first ∙ one_fine n good;
          leaves = T.leaves ∙ ap₂ firsts size (sym product_is);
          have = T.have ∙ ap suc (sym degree_is);
          height = T.height ∙ ap height_of (sym first-coefficients);
          peak = T.peak ∙ ap peak_of (sym first-coefficients);
          gain = T.gain ∙ ap gain_of (sym first-coefficients);
          inside = rw T.height (height_fits n good);
          small = small_gain;
          mirrored = ap₂ mirror degree_is product_is ∙ turned-factor n (index_good n good).0
              ∙ ap₂ signed (sym T.turned) (sym product_is);
        }

module _ {ns : List ℕ} {b scratch : List ℤ} {so : SoFar} {i : ℕ} (U : Underway ns b scratch so i) where
  ends : (k : ℕ) → suc (total_degree (take i ns)) ≤ k → product (take i ns) k ≡ 0ℤ
  ends = (monic_product (take i ns) (good_part ns i U.roomy.good)).above

  -- the entries are the product's
  entries_are : entries b ≡ product (take i ns)
  entries_are =
      ap entries U.leaves
      ∙ fun_ext (λ k. by_order k (suc (total_degree ns))
      (λ l. firsts_here (suc (total_degree ns)) (product (take i ns)) k l)
      (λ l. firsts_past (suc (total_degree ns)) (product (take i ns)) k l
      ∙ sym (ends k (omega (arith, degree-part ns i)))))

  pub known : Known b so
  unfolding product_coefficients
  known =
      record {
        some = rw U.have (omega arith);
        ends = λ k l. ap (λ f. f k) entries_are ∙ ends k (rw U.have at l);
        height = λ k. rw (entries_are, U.height) (bounded k);
        inside = U.inside;
        gain = U.small;
        mirrored = ap₂ (λ k f. mirror (k - 1) f) U.have entries_are
            ∙ ap (λ k. mirror k (product (take i ns))) (one_less (total_degree (take i ns)))
            ∙ U.mirrored ∙ ap (signed so.turned) (sym entries_are);
      }
    where
      one_less : (k : ℕ) → suc k - 1 ≡ k
      one_less k = omega arith

      bounded : (k : ℕ) → nat_abs (product (take i ns) k)
          ≤ height_of (firsts (suc (total_degree (take i ns))) (product (take i ns)))
      bounded k =
          by_order k (suc (total_degree (take i ns)))
          (λ l. entry_height (suc (total_degree (take i ns))) (product (take i ns)) k l)
          (λ l. rw (ends k l) (omega arith))

  module _ (l : i < length ns) where
    pub room : Room (get_or ns i 0) b scratch so
    room =
        record {
          good = good_at ns i l U.roomy.good;
          room = omega (arith, U.have, U.roomy.room, degree_more ns i l, degree-part ns (suc i));
          factor = omega (arith, longest_at ns i l, U.roomy.factor);
        }

    module _ {m : List ℤ} {r : Result SoFar Over} (T : Taken (get_or ns i 0) b so m r) where
      count : so.have + phi (get_or ns i 0) ≡ suc (total_degree (take (suc i) ns))
      count = omega (arith, U.have, degree_more ns i l)

      series : F (get_or ns i 0) · entries b ≡ product (take (suc i) ns)
      series = ap (λ f. F (get_or ns i 0) · f) entries_are ∙ sym (product_more ns i l)

      gains : pos so.gain ⊗ Rattle.definitions.specs.Answer.gain 1 (get_or ns i 0)
          ≡ gain_of (product_coefficients (take (suc i) ns))
      gains = ap (λ g. g ⊗ Rattle.definitions.specs.Answer.gain 1 (get_or ns i 0)) U.gain
          ∙ sym (gain_more ns i l U.roomy.good)

      tested : is_err r ≡ firsts_over (suc i) ns
      unfolding firsts_over product_over
      tested =
          T.over
          ∙ ap₂ (λ x y. x || not (in_range largest y))
          (ap₂ (λ k f. some_outside largest 0 k f) count series) gains
          ∙ sym (ap (λ x. x || product_over (take (suc i) ns)) U.fine)

      still_roomy : (s : List ℤ) → length s ≡ length scratch → Roomy ns m s
      still_roomy s e =
          record {
            good = U.roomy.good;
            room = T.len ∙ U.roomy.room;
            factor = rw e U.roomy.factor;
          }

      pub over_here : IsErr r → {told : Result SoFar Over} → IsErr told → ProductIs ns m told
      over_here o {told} err =
          record {
            over = err ∙ sym (stays_over ns (suc i) (length ns) l (sym tested ∙ o));
            len = T.len ∙ U.roomy.room;
            product = IfOk-from_err told (ProductOf ns m) err;
          }

      coefficients_are : firsts (so.have + phi (get_or ns i 0)) (F (get_or ns i 0) · entries b)
          ≡ product_coefficients (take (suc i) ns)
      unfolding product_coefficients
      coefficients_are = ap₂ firsts count series

      module _ {more : SoFar} (is : r ≡ Ok more) where
        o : is_err r ≡ false
        o = ap is_err is

        E : Extended (get_or ns i 0) b so m more
        E = rw is at T.extended

        in_range_lem : (some_outside largest 0 (so.have + phi (get_or ns i 0)) (F (get_or ns i 0) · entries b) ≡ false)
            × (not (in_range largest (pos so.gain ⊗ Rattle.definitions.specs.Answer.gain 1 (get_or ns i 0))) ≡ false)
        in_range_lem =
            neither (some_outside largest 0 (so.have + phi (get_or ns i 0)) (F (get_or ns i 0) · entries b))
            (not (in_range largest (pos so.gain ⊗ Rattle.definitions.specs.Answer.gain 1 (get_or ns i 0))))
            (sym T.over ∙ o)

        height_inside : more.height ≤ largest
        height_inside =
            rw E.height
            (height_least (so.have + phi (get_or ns i 0)) (F (get_or ns i 0) · entries b) largest
            (λ k c. range_in largest _
            (inside_each largest 0 (F (get_or ns i 0) · entries b) (so.have + phi (get_or ns i 0)) in_range_lem.0 k
            (omega arith) c)))

        gain_inside : more.gain ≤ largest
        gain_inside =
            rw (sym E.gain)
            at (range_in largest (pos so.gain ⊗ Rattle.definitions.specs.Answer.gain 1 (get_or ns i 0))
            (sym (not-not _) ∙ ap not in_range_lem.1))

        turned-next : mirror (total_degree (take (suc i) ns)) (product (take (suc i) ns))
            ≡ signed more.turned (product (take (suc i) ns))
        turned-next =
            let last : so.have + phi (get_or ns i 0) - 1 ≡ total_degree (take (suc i) ns) = omega (arith, count) in
            ap₂ mirror (sym last) (sym series) ∙ E.mirrored ∙ ap (signed more.turned) series

        pub underway_more : (s : List ℤ) → length s ≡ length scratch → Underway ns m s more (i + 1)
        underway_more s e =
            rw (add-one i)
            (record {
              roomy = still_roomy s e;
              at = l;
              fine = sym tested ∙ o;
              leaves = E.leaves ∙ ap₂ firsts U.roomy.room series;
              have = E.have ∙ count;
              height = E.height ∙ ap height_of coefficients_are;
              peak = E.peak ∙ ap peak_of coefficients_are;
              gain = E.gain ∙ gains;
              inside = height_inside;
              small = gain_inside;
              mirrored = turned-next;
            })

  pub done : length ns ≤ i → ProductIs ns b (Ok so)
  unfolding product_coefficients
  done l =
      let all = take_all i ns l in
      let last : i ≡ length ns = omega (arith, U.at) in
      record {
        over = sym U.fine ∙ ap (λ k. firsts_over k ns) last;
        len = U.roomy.room;
        product = record {
          leaves = U.leaves ∙ ap (λ x. firsts (suc (total_degree ns)) (product x)) all;
          height = U.height ∙ ap (λ x. height_of (product_coefficients x)) all;
          peak = U.peak ∙ ap (λ x. peak_of (product_coefficients x)) all;
          gain = U.gain ∙ ap (λ x. gain_of (product_coefficients x)) all;
          small = U.small;
        };
      }

-- The look over the list: what is known of its first i indices, one more, and at the end.
use Prim.Native.Nat.{ℕ, ◌+◌, ◌*◌, ◌<◌, ◌≤◌, max}
use mathlib.Core.Path.{◌≡◌, refl, sym, ◌∙◌, ap, ap₂}
use mathlib.Core.Bool.{Bool, true, false, cond}
use mathlib.Core.List.{List}
use native.Mathlib.Omega.{arith}
use native.Mathlib.Nat as NatL
use native.Mathlib.Numerals.{add-one}
use borrow.Author.Tests.{le-ltb}
use lib.Dec.{ltb}
use lib.ListN.{length, take, get_or}
use lib.Seq.{take_all}
use Rattle.definitions.specs.Numbers.{phi}
use Rattle.definitions.specs.Polynomials.{degree}
use Rattle.definitions.specs.Requests.{good_index}
use Rattle.definitions.specs.KeptHalf.{sum_of}
use Rattle.definitions.specs.Cascades.{total_degree, longest, all_good}
use Rattle.numbers.specs.Phi.{phi-le}
use Rattle.index.proofs.Laws.{index_good}
use Rattle.std.specs.Prelude.{Some, None}
use Rattle.cascade.specs.Asked.{SizesAre}
use Rattle.cascade.proofs.Lists.{good_more, bad_at, longest_more, degree_more}

pub record Sized (ns : List ℕ) (total long i : ℕ) : Type 0 where
  pub few : length ns ≤ 8
  pub at : i ≤ length ns
  pub good : all_good (take i ns) ≡ true
  pub sum : total ≡ total_degree (take i ns)
  pub most : long ≡ longest (take i ns)
  pub small : total ≤ i * 65535

pub sized_none : (ns : List ℕ) → length ns ≤ 8 → Sized ns 0 0 0
unfolding all_good total_degree longest sum_of
sized_none ns few = record { few = few; at = omega arith; good = refl; sum = refl; most = refl; small = omega arith }

-- the degree told of a good index
told : (n d : ℕ) → good_index n ≡ true → d ≡ cond (ltb 65535 n) 0 (degree 1 n) → d ≡ phi n
unfolding degree
told n d g e = e ∙ ap (λ b. cond b 0 (phi n)) (le-ltb 65535 n (index_good n g).1)

module _ {ns : List ℕ} {total long i : ℕ} (S : Sized ns total long i) where
  pub refused : i < length ns → {g : Bool} → g ≡ good_index (get_or ns i 0) → g ≡ false → SizesAre ns None
  refused l e bad = record { good = sym (bad_at ns i l (sym e ∙ bad)); sizes = tt }

  module _ (l : i < length ns) {g : Bool} {d : ℕ} (e : g ≡ good_index (get_or ns i 0)) (yes' : g ≡ true)
      (is : d ≡ cond (ltb 65535 (get_or ns i 0)) 0 (degree 1 (get_or ns i 0))) where
    degree_is : d ≡ phi (get_or ns i 0)
    degree_is = told (get_or ns i 0) d (sym e ∙ yes') is

    pub total_fits : total + d ≤ 524288
    total_fits = omega (
      arith,
      degree_is,
      phi-le (get_or ns i 0),
      (index_good (get_or ns i 0) (sym e ∙ yes')).1,
      S.small,
      S.few,
      NatL.mul-le-mul_right 65535 S.at,
    )

    pub sized_more : {m : ℕ} → m ≡ max long d → Sized ns (total + d) m (i + 1)
    sized_more {m} larger =
        rw (add-one i)
        (record {
          few = S.few;
          at = l;
          good = good_more ns i l S.good (sym e ∙ yes');
          sum = ap₂ ◌+◌ S.sum degree_is ∙ sym (degree_more ns i l);
          most = larger ∙ ap₂ max S.most degree_is ∙ sym (longest_more ns i l);
          small = omega (
            arith,
            degree_is,
            phi-le (get_or ns i 0),
            (index_good (get_or ns i 0) (sym e ∙ yes')).1,
            S.small,
            NatL.suc-mul i 65535,
          );
        })

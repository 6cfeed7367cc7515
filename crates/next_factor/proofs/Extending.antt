-- One factor more, as the routine comes to it: what is asked of the multiplication on the entries that the product
-- will have (`factor-asked`), and what is then told: that the gain leaves the range, that a coefficient does, or the
-- product.
use Prim.Native.Nat.{ℕ, suc, ◌+◌, ◌*◌, ◌-◌, ◌<◌, ◌≤◌}
use mathlib.Core.Path.{◌≡◌, refl, sym, ◌∙◌, ap, ap₂, fun_ext}
use mathlib.Core.Bool.{Bool, true, false, cond, not, ◌||◌, or-true, not-not}
use mathlib.Core.List.{List, ◌++◌}
use native.Mathlib.Omega.{arith}
use lib.Dec.{eqb, leb}
use lib.IntN.{ℤ, pos, nat_abs}
use lib.ListN.{length, take, drop, length-append, length-drop, get_or-append}
use lib.Seq.{take_at, length-take-le, get_or-take, get_or-drop, get_or-append-add}
use Rattle.definitions.specs.Integers.{◌⊗◌, 0ℤ}
use Rattle.definitions.specs.Series.{◌·◌, firsts}
use Rattle.definitions.specs.Numbers.{phi}
use Rattle.definitions.specs.Polynomials.{F}
use Rattle.definitions.specs.Steps.{entries, in_range, some_outside, largest}
use Rattle.definitions.specs.Answer.{height_of, peak_of, gain}
use Rattle.step_laws.specs.Tests.{by_order}
use Rattle.step_laws.specs.Firsts.{get_or-firsts, is_firsts, entries_past}
use Rattle.series.specs.Degree.{ZeroFrom, degrees_add}
use Rattle.series.specs.Mirror.{mirror}
use Rattle.cyclotomic.specs.Degrees.{monic_F}
use Rattle.index.proofs.Laws.{index_good}
use Rattle.index.specs.Parts.{parts_of}
use Rattle.index.specs.declared.Parts.{Parts}
use Rattle.heights.specs.declared.Top.{Top}
use Rattle.std.specs.Prelude.{Result, Ok, IsErr}
use Rattle.std.proofs.lemmas.Result.{IfOk-from_err}
use Rattle.exact_products.specs.declared.Over.{Over}
use Rattle.next_factor.specs.declared.SoFar.{SoFar}
use Rattle.next_factor.specs.declared.Size.{Size}
use Rattle.next_factor.specs.Taking.{SizeIs, Known, Room, Extended, Taken}
use Rattle.next_factor.specs.Times.{Asked, Turns, Multiplied, signed}
use Rattle.next_factor.proofs.Mirroring.{turned-product}

module _ {n : ℕ} {l scratch : List ℤ} {s : SoFar} {size : Size} (K : Known l s) (R : Room n l scratch s)
    (M : SizeIs n size) where
  abbrev have : ℕ
  have = s.have + size.degree

  have_is : have ≡ s.have + phi n
  have_is = ap (λ d. s.have + d) M.degree

  pub inside : s.have + size.degree ≤ length l
  inside = rw M.degree R.room

  front : length (take have l) ≡ have
  front = length-take-le (s.have + size.degree) l inside

  -- nothing stands past the entries that the product will have
  same : (i : ℕ) → entries (take have l) i ≡ entries l i
  unfolding entries
  same i =
      by_order i have (λ b. get_or-take have l i 0ℤ b)
      (λ b. entries_past (take have l) i (omega (arith, front)) ∙ sym (K.ends i (omega arith)))

  same_series : entries (take have l) ≡ entries l
  same_series = fun_ext same

  pub factor-asked : {parts : Parts} → parts ≡ parts_of n
      → Asked n parts (take (s.have + size.degree) l) s.have s.height
  factor-asked apart =
      record {
        good = R.good;
        apart = apart;
        some = K.some;
        ends = λ i b. same i ∙ K.ends i b;
        room = omega (arith, front, have_is);
        bounded = λ i. rw (same i) (K.height i);
        inside = K.inside;
      }

  -- the sign of the upper half
  abbrev sign : Bool
  sign = cond (eqb n 1) (not s.turned) s.turned

  product_turned : mirror (s.have + phi n - 1) (F n · entries l) ≡ signed sign (F n · entries l)
  product_turned =
      let last : suc (s.have - 1) ≡ s.have = omega (arith, K.some) in
      let count : phi n + (s.have - 1) ≡ s.have + phi n - 1 = omega (arith, K.some) in
      rw count
      at (turned-product n (index_good n R.good).0 (s.have - 1) s.turned (entries l) (rw last K.ends)
      K.mirrored)

  pub turns_asked : {negate : Bool} → negate ≡ cond (eqb n 1) (not s.turned) s.turned
      → Turns n (take (s.have + size.degree) l) s.have negate
  turns_asked e =
      record {
        whole = front ∙ have_is;
        mirrored = ap₂ (λ k f. mirror (k - 1) (F n · f)) (front ∙ have_is) same_series ∙ product_turned
            ∙ ap₂ (λ b f. signed b (F n · f)) (sym e) (sym same_series);
      }

  -- the product has no more entries than that
  product_ends : ZeroFrom (s.have + phi n) (F n · entries l)
  product_ends i b =
      let last : suc (s.have - 1) ≡ s.have = omega (arith, K.some) in
      degrees_add (phi n) (s.have - 1) (F n) (entries l) (monic_F n (index_good n R.good).0).above
      (rw last K.ends) i (omega arith)

  -- ---- the gain leaves the range
  gain-product : pos (s.gain * size.gain) ≡ pos s.gain ⊗ gain 1 n
  unfolding ◌⊗◌
  gain-product = ap (λ x. pos s.gain ⊗ x) M.gain

  gain_test : (b : Bool) → b ≡ leb (s.gain * size.gain) largest → b ≡ in_range largest (pos s.gain ⊗ gain 1 n)
  unfolding in_range
  gain_test b e = e ∙ ap (λ v. leb (nat_abs v) largest) gain-product

  -- what is told where either does
  gone : {m : List ℤ} {r : Result SoFar Over} → IsErr r → length m ≡ length l
      → (some_outside largest 0 (s.have + phi n) (F n · entries l) || not (in_range largest (pos s.gain ⊗ gain 1 n)))
      ≡ true
      → Taken n l s m r
  gone {m} {r} e len o =
      record { over = e ∙ sym o; len = len; extended = IfOk-from_err r (Extended n l s m) e }

  pub gain-over : {b : Bool} → b ≡ leb (s.gain * size.gain) largest → b ≡ false → {r : Result SoFar Over} → IsErr r
      → Taken n l s l r
  gain-over {b} e lost err =
      gone err refl
      (ap (λ x. some_outside largest 0 (s.have + phi n) (F n · entries l) || not x) (sym (gain_test b e) ∙ lost)
      ∙ or-true (some_outside largest 0 (s.have + phi n) (F n · entries l)))

  -- ---- the product
  module _ {m : List ℤ} {fits : Bool} (T : Multiplied n (take (s.have + size.degree) l) m fits) where
    m-length : length m ≡ have
    m-length = T.len ∙ front

    abbrev whole : List ℤ
    whole = m ++ drop (s.have + size.degree) l

    pub whole_length : length (m ++ drop (s.have + size.degree) l) ≡ length l
    whole_length = length-append m (drop have l) ∙ omega (arith, m-length, length-drop have l, inside)

    tested : fits ≡ not (some_outside largest 0 (s.have + phi n) (F n · entries l))
    tested =
        T.inside ∙ ap₂ (λ k f. not (some_outside largest 0 k (F n · f))) (front ∙ have_is) same_series

    passes : fits ≡ false → some_outside largest 0 (s.have + phi n) (F n · entries l) ≡ true
    passes e = sym (not-not _) ∙ ap not (sym tested ∙ e)

    stays : fits ≡ true → some_outside largest 0 (s.have + phi n) (F n · entries l) ≡ false
    stays e = sym (not-not _) ∙ ap not (sym tested ∙ e)

    pub coefficient_over : fits ≡ false → {r : Result SoFar Over} → IsErr r
        → Taken n l s (m ++ drop (s.have + size.degree) l) r
    coefficient_over lost err =
        gone err whole_length (ap (λ x. x || not (in_range largest (pos s.gain ⊗ gain 1 n))) (passes lost))

    module _ (fit : fits ≡ true) where
      m_is : m ≡ firsts (s.have + phi n) (F n · entries l)
      m_is = T.leaves fit ∙ ap₂ (λ k f. firsts k (F n · f)) (front ∙ have_is) same_series

      entry : (k : ℕ) → k < length l → entries whole k ≡ (F n · entries l) k
      unfolding entries
      entry k b =
          by_order k have
          (λ c. get_or-append m (drop have l) 0ℤ k (omega (arith, m-length))
          ∙ ap (λ x. entries x k) m_is ∙ get_or-firsts (s.have + phi n) (F n · entries l) k (omega (arith, have_is)))
          (λ c. let at : length m + (k - have) ≡ k = omega (arith, m-length) in
          let back : have + (k - have) ≡ k = omega arith in
          ap (entries whole) (sym at) ∙ get_or-append-add m (drop have l) (k - have) 0ℤ
          ∙ get_or-drop have l (k - have) 0ℤ ∙ ap (entries l) back
          ∙ K.ends k (omega arith) ∙ sym (product_ends k (omega (arith, have_is))))

      taken-front : take have whole ≡ firsts (s.have + phi n) (F n · entries l)
      taken-front = take_at m (drop have l) have m-length ∙ m_is

      pub extended :
          {b : Bool} → b ≡ leb (s.gain * size.gain) largest → b ≡ true → {negate : Bool}
          → negate ≡ cond (eqb n 1) (not s.turned) s.turned → {top : Top}
          → top
          ≡ record {
            height = height_of (take (s.have + size.degree) (m ++ drop (s.have + size.degree) l));
            place = peak_of (take (s.have + size.degree) (m ++ drop (s.have + size.degree) l));
          }
          → Taken n l s (m ++ drop (s.have + size.degree) l)
          (Ok (record {
            turned = negate;
            have = s.have + size.degree;
            height = top.height;
            peak = top.place;
            gain = s.gain * size.gain;
          }))
      unfolding entries
      extended {b} e small {negate} signs {top} is =
          record {
            over = sym (ap₂ (λ x y. x || not y) (stays fit) (sym (gain_test b e) ∙ small));
            len = whole_length;
            extended = record {
              leaves = is_firsts (length l) (F n · entries l) whole whole_length entry;
              have = have_is;
              height = ap (λ x. x.height) is ∙ ap height_of taken-front;
              peak = ap (λ x. x.place) is ∙ ap peak_of taken-front;
              mirrored = product_turned ∙ ap (λ b. signed b (F n · entries l)) (sym signs);
              gain = gain-product;
            };
          }

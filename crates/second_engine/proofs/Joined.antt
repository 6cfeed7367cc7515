-- Parts of a slice as series; that the product of both polynomials of m, and its quotient, is that of m p; and that
-- 64-bit numbers which are so modulo 2^64 are it. The sizes, as they are computed.
use Prim.Native.Nat.{ℕ, ◌+◌, ◌*◌, ◌-◌, ◌<◌, ◌≤◌}
use mathlib.Core.Path.{◌≡◌, sym, ◌∙◌, ap, fun_ext}
use mathlib.Core.Bool.{Bool, true, false, cond}
use mathlib.Core.List.{List, ◌++◌}
use native.Mathlib.Omega.{arith}
use native.Mathlib.Nat as NatL
use lib.Dec.{eqb}
use lib.ListN.{length, take, drop, get_or, length-take, get_or-append, get_or-eq_default}
use lib.Seq.{get_or-take, get_or-drop}
use lib.IntN.{ℤ}
use Rattle.definitions.specs.Integers.{0ℤ}
use Rattle.definitions.specs.Series.{Series, ◌·◌, spread}
use Rattle.definitions.specs.Numbers.{phi}
use Rattle.definitions.specs.Polynomials.{polynomial, degree}
use Rattle.definitions.specs.Second.{other_kind}
use Rattle.definitions.specs.Steps.{entries}
use Rattle.definitions.specs.KeptHalf.{half_degree}
use Rattle.numbers.specs.Phi.{phi-times, phi-le}
use Rattle.numbers.specs.Primes.{prime_pos}
use Rattle.step_laws.specs.Tests.{by_order}
use Rattle.step_laws.specs.Firsts.{firsts_here}
use Rattle.cyclotomic.specs.Second.{divided_first, product_inverse}
use Rattle.never_over.proofs.Heights.{coefficient_fits}
use Rattle.wrapped_sums.specs.Wrapped.{wrap}
use Rattle.wrapped_sums.specs.Alike.{like_exact}
use Rattle.spread_products.specs.Rows.{Made}
use Rattle.second_engine.specs.declared.kind.Kind.{Kind}
use Rattle.second_engine.specs.declared.kind.Kind.TheVariants.{First, Inverse}
use Rattle.second_engine.specs.Kinds.{kind_means}
use Rattle.second_engine.specs.Halves.{Half, Part, Filled, Joining, divided}

-- ---- parts
pub own_series : {f : Series} {a e : ℕ} {l : List ℤ} → Part f a e l → a ≤ e → entries (drop a (take e l)) ≡ f
unfolding entries
own_series {f} {a} {e} {l} P some =
    fun_ext (λ i. get_or-drop a (take e l) i 0ℤ
    ∙ by_order (a + i) e
    (λ b. get_or-take e l (a + i) 0ℤ b ∙ P.inside i (omega arith))
    (λ b.
    let far : length (take e l) ≤ a + i = omega (arith, length-take e l) in
    get_or-eq_default (take e l) 0ℤ far ∙ sym (P.past i (omega arith))))

pub front_series : {f : Series} {w : ℕ} (e : ℕ) {l : List ℤ} → Part f 0 w l → w ≤ e → entries (take w (take e l)) ≡ f
unfolding entries
front_series {f} {w} e {l} P b =
    fun_ext (λ i. by_order i w
    (λ c. get_or-take w (take e l) i 0ℤ c ∙ get_or-take e l i 0ℤ (omega arith)
    ∙ ap (λ k. get_or l k 0ℤ) (omega arith) ∙ P.inside i (omega arith))
    (λ c.
    let far : length (take w (take e l)) ≤ i = omega (arith, length-take w (take e l)) in
    get_or-eq_default (take w (take e l)) 0ℤ far ∙ sym (P.past i (omega arith))))

-- what stands before the part that was filled in
pub still : {from to kind m : ℕ} {f : Series} {l q : List ℤ} → Filled from to kind m l q → Part f 0 from l
    → Part f 0 from q
still {from} F P =
    record {
      inside = λ i b. F.before (0 + i) (omega arith) ∙ P.inside i b;
      past = P.past;
    }

-- ---- exact
pub made-half : (kind r : ℕ) → 0 < r → r ≤ 65535 → {s : Series} {x : List ℤ} (y : List ℤ) → Made s x
    → s ≡ polynomial kind r
    → length x ≡ half_degree kind r + 1 → Half kind r (x ++ y)
unfolding entries
made-half kind r pos small {s} {x} y made e len i b =
    let n : i < length x = omega (arith, len) in
    get_or-append x y 0ℤ i n
    ∙ ap (λ l. get_or l i 0ℤ)
    (like_exact x (polynomial kind r) made.fit (λ k c. made.like k c ∙ ap (λ f. wrap (f k)) e)
    (λ k c. coefficient_fits r pos small kind k))
    ∙ firsts_here (length x) (polynomial kind r) i n

-- ---- sizes
module _ {kind m below p : ℕ} {a b : List ℤ} (J : Joining kind m below p a b) where
  pub p-pos : 0 < p
  p-pos = prime_pos J.prime

  pub r-pos : 0 < m * p
  r-pos = NatL.mul-pos J.pos p-pos

  pub m_small : m ≤ 65535
  m_small = NatL.le_trans (NatL.le-mul_of_pos_right m p-pos) J.small

  pub phi-r : below * (p - 1) ≡ phi (m * p)
  phi-r = ap (λ x. x * (p - 1)) J.is_below ∙ sym (phi-times m p J.prime J.new)

  pub free-r : below * (p - 1) ≤ m * p
  free-r = rw phi-r (phi-le (m * p))

-- the other kind's stands in front, and this kind's after it
pub both_degrees : (kind m : ℕ) → degree (other_kind kind) m + degree kind m ≡ m
unfolding degree other_kind
both_degrees kind m = go (eqb kind 1)
  where
    go : (c : Bool) → cond (eqb (cond c 2 1) 1) (phi m) (m - phi m) + cond c (phi m) (m - phi m) ≡ m
    go true = omega (arith, phi-le m)
    go false = omega (arith, phi-le m)

-- ---- products
pub joined : (kind : Kind) {m below p : ℕ} {a b : List ℤ} → Joining (kind_means kind) m below p a b
    → divided (kind_means kind) m (spread p (polynomial (kind_means kind) m) · polynomial (other_kind (kind_means kind)) m)
    ≡ polynomial (kind_means kind) (m * p)
unfolding polynomial other_kind
joined First {m} {below} {p} J = divided_first m p J.pos J.prime J.new
joined Inverse {m} {below} {p} J = product_inverse m p J.pos J.prime J.new

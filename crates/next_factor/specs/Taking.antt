-- What is known of a product, and what one factor more makes of it.
use Rattle.std.specs.Prelude.{ℕ, suc, ◌+◌, ◌-◌, ◌<◌, ◌≤◌, ◌≡◌, true, not, ◌||◌, List, length, eqb, ℤ, pos, Result, is_err, IfOk}
use Rattle.definitions.specs.Integers.{◌⊗◌}
use Rattle.definitions.specs.Series.{◌·◌, firsts}
use Rattle.definitions.specs.Numbers.{phi}
use Rattle.definitions.specs.Polynomials.{F}
use Rattle.definitions.specs.Steps.{entries, in_range, some_outside, largest}
use Rattle.definitions.specs.Requests.{good_index}
use Rattle.definitions.specs.Answer.{height_of, peak_of, gain}
use Rattle.series.specs.Degree.{ZeroFrom}
use Rattle.series.specs.Mirror.{mirror}
use Rattle.step_laws.specs.Bound.{Bounded}
use Rattle.next_factor.specs.Times.{signed}
use Rattle.exact_products.specs.declared.Over.{Over}
use Rattle.next_factor.specs.declared.SoFar.{SoFar}
use Rattle.next_factor.specs.declared.Size.{Size}

-- F(n)'s degree and gain
pub record SizeIs (n : ℕ) (r : Size) : Type 0 where
  pub degree : r.degree ≡ phi n
  pub gain : pos r.gain ≡ Rattle.definitions.specs.Answer.gain 1 n

-- F(n) is the product so far, in the slice that was l and is m
pub record First (n : ℕ) (l m : List ℤ) (r : SoFar) : Type 0 where
  pub turned : r.turned ≡ eqb n 1
  pub leaves : m ≡ firsts (length l) (F n)
  pub have : r.have ≡ suc (phi n)
  pub height : r.height ≡ Rattle.definitions.specs.Answer.height 1 n
  pub peak : r.peak ≡ Rattle.definitions.specs.Answer.peak 1 n
  pub gain : pos r.gain ≡ Rattle.definitions.specs.Answer.gain 1 n

-- the entries of l are the coefficients of a product: so many, none larger than the height, the upper half mirroring
-- the lower; height and gain are in range
pub record Known (l : List ℤ) (s : SoFar) : Type 0 where
  pub some : 1 ≤ s.have
  pub ends : ZeroFrom s.have (entries l)
  pub height : Bounded s.height (entries l)
  pub inside : s.height ≤ largest
  pub gain : s.gain ≤ largest
  pub mirrored : mirror (s.have - 1) (entries l) ≡ signed s.turned (entries l)

-- there is room for F(n), and for the product with it
pub record Room (n : ℕ) (l scratch : List ℤ) (s : SoFar) : Type 0 where
  pub good : good_index n ≡ true
  pub room : s.have + phi n ≤ length l
  pub factor : phi n < length scratch

-- the product with F(n) stands in m
pub record Extended (n : ℕ) (l : List ℤ) (s : SoFar) (m : List ℤ) (r : SoFar) : Type 0 where
  pub leaves : m ≡ firsts (length l) (F n · entries l)
  pub have : r.have ≡ s.have + phi n
  pub height : r.height ≡ height_of (firsts (s.have + phi n) (F n · entries l))
  pub peak : r.peak ≡ peak_of (firsts (s.have + phi n) (F n · entries l))
  pub mirrored : mirror (s.have + phi n - 1) (F n · entries l) ≡ signed r.turned (F n · entries l)
  pub gain : pos r.gain ≡ pos s.gain ⊗ Rattle.definitions.specs.Answer.gain 1 n

-- the product with F(n) is out of range, or stands in m
pub record Taken (n : ℕ) (l : List ℤ) (s : SoFar) (m : List ℤ) (r : Result SoFar Over) : Type 0 where
  pub over : is_err r
      ≡ (some_outside largest 0 (s.have + phi n) (F n · entries l) || not (in_range largest (pos s.gain ⊗ gain 1 n)))
  pub len : length m ≡ length l
  pub extended : IfOk r (Extended n l s m)

-- r > 1: after all divisors the kept half is the lower half of the polynomial of r (`lower`); and what the making comes
-- to (`made_over`, `made_tall`, `made_done`). r = 1: no step is taken (`made_one`).
use Prim.Native.Nat.{ℕ, suc, ◌+◌, ◌<◌, ◌≤◌}
use mathlib.Core.Path.{◌≡◌, sym, ◌∙◌, ap, ap₂}
use mathlib.Core.Bool.{Bool, true, false, cond}
use mathlib.Core.Logic.{◌≢◌}
use mathlib.Core.List.{List, ◌++◌}
use native.Mathlib.Omega.{arith}
use native.Mathlib.Nat as NatL
use borrow.Author.Tests.{le-ltb, lt-ltb}
use lib.ListN.{length, take, drop, length-append, length-drop, get_or-append}
use lib.Seq.{take_at}
use lib.Dec.{ltb}
use lib.IntN.{ℤ}
use Rattle.definitions.specs.Integers.{0ℤ}
use Rattle.definitions.specs.Numbers.{r_of, list_to, divisors_below}
use Rattle.definitions.specs.Polynomials.{polynomial, degree}
use Rattle.definitions.specs.Steps.{entries, largest}
use Rattle.definitions.specs.KeptHalf.{half_degree, kept_half, additions_after, sum_of}
use Rattle.definitions.specs.Requests.{divisors_due, over_among, zeros}
use Rattle.definitions.specs.Answer.{coefficients, height, additions_for}
use Rattle.numbers.specs.Apart.{r_odd_squarefree}
use Rattle.numbers.specs.Below.{additions-all}
use Rattle.cyclotomic.specs.Kept.{kept-all}
use Rattle.cyclotomic.specs.Heights.{told-one}
use Rattle.step_laws.specs.Bound.{Bounded}
use Rattle.kept_half.specs.Halves.{StepsDue}
use Rattle.squarefree_from_half.specs.Growth.{Lower}
use Rattle.whole_from_half.specs.Ready.{Ready}
use Rattle.std.specs.Prelude.{Some, None, Ok, Err}
use Rattle.answers.specs.declared.Refusal.TheVariants as R
use Rattle.polynomial.specs.Making.{MadeIs, refusal_of}
use Rattle.polynomial.specs.declared.making.Made.{Made}
use Rattle.index.specs.declared.Parts.{Parts}
use Rattle.laying_out.specs.Laid.{LaidIs}
use Rattle.laying_out.specs.declared.Laid.{Laid}
use Rattle.squarefree_from_half.proofs.Growing.{half_within, front_entry}
use Rattle.whole_from_half.proofs.Laying.{r_fits}

pub steps_due : {kind n : ℕ} {a : Parts} {l : List ℤ} → Ready kind n a l → r_of n ≢ 1 → StepsDue kind n a
steps_due R above = record { parts = R.parts; known = R.known; good = R.good; above = above }

module _ (kind n : ℕ) (a : Parts) (l : List ℤ) (R : Ready kind n a l) (above : r_of n ≢ 1) (d : ℕ)
    (ed : d ≡ half_degree kind (r_of n)) where
  pub half_room : d + 1 ≤ length l
  half_room = omega (arith, half_within kind (r_of n), r_fits kind n a l R)

  -- the steps left m in front
  module _ (m : List ℤ) (long : length m ≡ half_degree kind (r_of n) + 1) where
    m-length : length m ≡ d + 1
    m-length = long ∙ ap (λ k. k + 1) (sym ed)

    pub rest-length : length (m ++ drop (d + 1) l) ≡ length l
    rest-length = length-append m (drop (d + 1) l) ∙ omega (arith, m-length, length-drop (d + 1) l, half_room)

    pub still_ready : Ready kind n a (m ++ drop (d + 1) l)
    still_ready = record { parts = R.parts; known = R.known; good = R.good; room = rest-length ∙ R.room }

    pub bounded : (b : ℕ) → Bounded b (entries m)
        → Bounded b (entries (take (half_degree kind (r_of n) + 1) (m ++ drop (d + 1) l)))
    bounded b within = rw (sym ed, take_at m (drop (d + 1) l) (d + 1) m-length) within

    -- all of them, none of which was OVER
    pub lower : (w : ℕ) → w ≤ largest → m ≡ kept_half kind (r_of n) (divisors_due (r_of n)) → Bounded w (entries m)
        → Lower kind (r_of n) (m ++ drop (d + 1) l)
    unfolding entries divisors_due
    lower w range kept inside =
        let is = kept ∙ kept-all kind (r_of n) (r_odd_squarefree n) above in
        let there = front_entry (half_degree kind (r_of n) + 1) (polynomial kind (r_of n)) m is in
        record {
          squarefree = r_odd_squarefree n;
          above = above;
          half = λ i b. get_or-append m (drop (d + 1) l) 0ℤ i (omega (arith, m-length)) ∙ there i b;
          inside = λ i b. rw (sym (there i b)) (NatL.le_trans (inside i) range);
        }

-- ---- what the making comes to
abbrev Over : (w kind n : ℕ) → Bool
Over w kind n = over_among w kind (r_of n) (divisors_due (r_of n))

module _ (kind n h w : ℕ) (x : List ℤ) where
  pub made_over : Over w kind n ≡ true → x ≡ zeros (suc (degree kind n)) → MadeIs kind n h w x (Err R.Over)
  unfolding refusal_of
  made_over o e = (ap (λ b. cond b (Some R.Over) (cond (ltb h (height kind n)) (Some R.Tall) None)) o, e)

  module _ (o : Over w kind n ≡ false) where
    pub made_tall : h < height kind n → x ≡ zeros (suc (degree kind n)) → MadeIs kind n h w x (Err R.Tall)
    unfolding refusal_of
    made_tall t e =
        (ap₂ (λ b c. cond b (Some R.Over) (cond c (Some R.Tall) None)) o (lt-ltb h (height kind n) t), e)

    pub made_done : (r : Laid) → LaidIs kind n h x (Ok r) → (k : ℕ)
        → k ≡ additions_after kind (r_of n) (divisors_due (r_of n))
        → MadeIs kind n h w x (Ok (record { additions = k; height = r.height; peak = r.peak }))
    unfolding refusal_of additions_for divisors_due
    made_done r laid k q = (
      ap₂ (λ b c. cond b (Some R.Over) (cond c (Some R.Tall) None)) o (le-ltb h (height kind n) laid.0),
      laid.1,
      ap₂ {C = Made} (λ j v. record { additions = j; height = v.height; peak = v.peak })
          (q ∙ additions-all kind (r_of n)) laid.2,
    )

-- r = 1: no step is taken, the height is 1 and the peak 0
pub made_one :
    (kind n h w : ℕ) (x : List ℤ) → 0 < n → r_of n ≡ 1 → 1 ≤ h → x ≡ coefficients kind n
    → MadeIs kind n h w x (Ok (record { additions = 0; height = 1; peak = 0 }))
unfolding divisors_due divisors_below list_to over_among additions_after sum_of
made_one kind n h w x l o t e =
    let top = told-one kind n l o in
    made_done kind n h w x (ap (λ r. over_among w kind r (divisors_due r)) o) (record { height = 1; peak = 0 })
    (rw top.0 t, e, ap₂ {C = Laid} (λ y z. record { height = y; peak = z }) (sym top.0) (sym top.1)) 0
    (sym (ap (λ r. additions_after kind r (divisors_due r)) o))

-- The tested pass over the chains, group by group. One that came to its end is the step; one that stopped is as
-- `Stopped` says: what was added to a place taken is what stands d before it, so it can be taken away again.
use mathlib.Core.Path.{◌≡◌, sym, ◌∙◌, ap, ap₂}
use mathlib.Core.Bool.{Bool, true, false, true≢false, cond}
use mathlib.Core.List.{List}
use Prim.Native.Nat.{ℕ, ◌-◌, ◌%◌, ◌<◌, ◌≤◌, min}
use native.Mathlib.Nat.{mod-eq-sub-mod, not-suc-le-zero, lt_of_lt_of_le}
use native.Mathlib.Omega.{arith}
use borrow.Author.Tests.{lt-ltb, le-ltb}
use lib.ListN.{length, get_or, get_or-eq_default}
use lib.IntN.{ℤ, nat_abs}
use mir.Syntax.{w64}
use mir.Val.{SFits}
use Rattle.definitions.specs.Integers.{◌⊕◌, 0ℤ}
use Rattle.definitions.specs.Steps.{accumulate, accumulated, entries, in_range, stepped}
use Rattle.step_laws.specs.Accumulated.{accumulated_from}
use Rattle.step_laws.specs.Signed.{range_in}
use Rattle.step_laws.specs.Tests.{by_order}
use Rattle.step_laws.specs.Step.{not-over_each}
use Rattle.entry_steps.specs.Passes.{addable, Narrow, SteppedOrUndone}
use Rattle.entry_steps.specs.Asked.{Way, known, narrow, wide, AskedOfStep}
use Rattle.entry_steps.proofs.Tested.{whole}
use Rattle.chains.specs.Tested.{AskedOfGroup, Tested}
use Rattle.accumulates.specs.Stopped.{is_taken, Stopped}
use Rattle.accumulates.proofs.Pass.{first_stays, none-taken, same_new, group_after, longer, all-taken}

pub none-tested : (w d : ℕ) (l : List ℤ) → Tested w d 0 0 (length l) l l
none-tested w d l =
    record {
      taken = none-taken d l;
      found = λ x low high _ _. absurd (not-suc-le-zero high);
    }

-- by whether a place is taken
pub by_taken : (d full to stop x : ℕ) (P : Bool → Type 0) → (x % d < full → P true)
    → (full ≤ x % d → x % d < to → x < stop → P true) → (full ≤ x % d → x % d < to → stop ≤ x → P false)
    → (full ≤ x % d → to ≤ x % d → P false) → P (is_taken d full to stop x)
by_taken d full to stop x P whole part late none =
    by_order (x % d) full (λ l. rw (lt-ltb (x % d) full l) (whole l))
    (λ l. by_order (x % d) to
    (λ h. by_order x stop
    (λ e. rw (le-ltb (x % d) full l, lt-ltb (x % d) to h, lt-ltb x stop e) (part l h e))
    (λ e. rw (le-ltb (x % d) full l, lt-ltb (x % d) to h, le-ltb x stop e) (late l h e)))
    (λ h. rw (le-ltb (x % d) full l, le-ltb (x % d) to h) (none l h)))

-- a narrow list stays so: each entry is an old one or a value within w
pub still_narrow : {w d c end : ℕ} {l m : List ℤ} → Tested w d 0 c end l m → Narrow w l → Narrow w m
unfolding entries
still_narrow {w} {d} {c} {end} {l} {m} p n = record { limit = n.limit; small = small }
  where
    taken : (k : ℕ) → k % d < c → k < end → k < length l → nat_abs (get_or m k 0ℤ) ≤ addable
    taken k low e b =
        by_order k d (λ h. rw (first_stays p.taken k h b) (n.small k))
        (λ h.
        rw (p.taken.new k (omega arith) low e b)
        (omega (arith, n.limit, range_in w (accumulated d (entries l) k) (p.found k (omega arith) low e b h).0)))

    small : (k : ℕ) → nat_abs (get_or m k 0ℤ) ≤ addable
    small k =
        by_order k (length l)
        (λ b. by_order (k % d) c
        (λ low. by_order k end (λ e. taken k low e b) (λ late. rw (p.taken.later k late b) (n.small k)))
        (λ high. rw (p.taken.upper k high b) (n.small k)))
        (λ out. rw (get_or-eq_default m 0ℤ {n = k} (omega (arith, p.taken.len))) (omega arith))

-- the chains below c are taken, and then a group of the others
module _ {w d c : ℕ} (one : 1 ≤ d) {l m : List ℤ} (p : Tested w d 0 c (length l) l m) where
  -- what is asked of the step is asked of the group
  pub asked_still : (to : ℕ) (t : Way) → AskedOfStep t w accumulate d l → AskedOfGroup t w d c to m
  unfolding stepped
  asked_still to known none = λ x low high below b from.
      let in' : x < length l = omega (arith, p.taken.len) in
      ap (in_range w) (same_new one p.taken x low in') ∙ not-over_each accumulate d l w none x from in'
  asked_still to narrow n = still_narrow p n
  asked_still to wide _ = tt

  module _ {to : ℕ} {m' : List ℤ} (up : c ≤ to) where
    -- to its end
    pub tested-after : Tested w d c to (length m) m m' → Tested w d 0 to (length l) l m'
    unfolding entries
    tested-after q =
        record {
          taken = group_after one p.taken up q.taken;
          found = λ x _ high below b h.
              by_order (x % d) c (λ low. p.found x (omega arith) low below b h)
              (λ low.
              let f = q.found x low high (in' b) (in' b) h in (
                ap (in_range w) (sym (same_new one p.taken x low b)) ∙ f.0,
                rw (p.taken.upper x low b) at f.1,
              ));
        }
      where
        in' : {x : ℕ} → x < length l → x < length m
        in' b = omega (arith, p.taken.len)

    -- up to r
    pub stopped : {r : ℕ} → Tested w d c to r m m' → Stopped d c to r l m'
    unfolding entries
    stopped {r} q =
        record {
          len = q.taken.len ∙ p.taken.len;
          each = λ x h b.
              let same : x % d ≡ (x - d) % d = mod-eq-sub-mod h in
              by_taken d c to r x (λ t. get_or m' x 0ℤ ≡ cond t (entries l x ⊕ get_or m' (x - d) 0ℤ) (entries l x))
              (λ low.
              q.taken.lower x low (in' b)
              ∙ p.taken.new x (omega arith) low b b
              ∙ accumulated_from d (entries l) x one h
              ∙ ap (λ v. entries l x ⊕ v)
              (sym (q.taken.lower (x - d) (omega arith) (in' (omega arith))
              ∙ p.taken.new (x - d) (omega arith) (omega arith) (omega arith) (omega arith))))
              (λ low high early.
              q.taken.new x low high early (in' b)
              ∙ accumulated_from d (entries m) x one h
              ∙ ap₂ ◌⊕◌ (p.taken.upper x low b)
              (sym (q.taken.new (x - d) (omega arith) (omega arith) (omega arith) (in' (omega arith)))))
              (λ low high late. q.taken.later x late (in' b) ∙ p.taken.upper x low b)
              (λ low high. q.taken.upper x high (in' b) ∙ p.taken.upper x low b);
          first = λ x h b. first_stays q.taken x h (in' b) ∙ first_stays p.taken x h b;
          fit = λ x h b.
              by_taken d c to r x (λ t. t ≡ true → SFits w64 (entries l x))
              (λ low _. (p.found x (omega arith) low b b h).1)
              (λ low high early _. rw (p.taken.upper x low b) at (q.found x low high early (in' b) h).1)
              (λ low high late e. absurd (true≢false (sym e)))
              (λ low high e. absurd (true≢false (sym e)));
        }
      where
        in' : {x : ℕ} → x < length l → x < length m
        in' b = omega (arith, p.taken.len)

-- the whole pass
pub all_tested : {w d to : ℕ} → 1 ≤ d → {l m : List ℤ} → min d (length l - d) ≤ to → Tested w d 0 to (length l) l m
    → SteppedOrUndone w accumulate d l m true
unfolding stepped
all_tested one e t =
    whole (λ k h b. (t.found k (omega arith) (lt_of_lt_of_le (longer one k h b) e) b b h).0)
    (all-taken one e t.taken)

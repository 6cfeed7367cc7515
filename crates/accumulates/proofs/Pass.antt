-- A pass over the chains, group by group: what a group makes of what the groups before it left is what it would make of
-- the old list, since a chain needs no other. After the last group the list is the accumulate's.
use mathlib.Core.Path.{◌≡◌, refl, sym, ◌∙◌}
use mathlib.Core.List.{List}
use Prim.Native.Nat.{ℕ, ◌-◌, ◌%◌, ◌<◌, ◌≤◌, min}
use native.Mathlib.Nat.{mod-lt, mod-le, mod-eq-sub-mod, not-suc-le-zero, lt_of_lt_of_le}
use native.Mathlib.Omega.{arith}
use lib.ListN.{length, get_or}
use lib.IntN.{ℤ}
use Rattle.definitions.specs.Integers.{0ℤ}
use Rattle.definitions.specs.Steps.{accumulate, accumulated, entries, stepped, step_list}
use Rattle.step_laws.specs.Accumulated.{accumulated_below}
use Rattle.step_laws.specs.Chain.{same_chain}
use Rattle.step_laws.specs.Firsts.{is_firsts}
use Rattle.step_laws.specs.Tests.{by_order}
use Rattle.chains.specs.Chains.{Taken}

clash : {x y : ℕ} → x < y → y ≤ x → ⊥
clash h m = omega arith

-- the first entries stay
pub first_stays : {d from to end : ℕ} {l m : List ℤ} → Taken d from to end l m → (x : ℕ) → x < d → x < length l
    → get_or m x 0ℤ ≡ entries l x
first_stays {d} {from} {to} {end} {l} t x h b =
    by_order (x % d) from (λ low. t.lower x low b)
    (λ low. by_order (x % d) to
    (λ high. by_order x end
    (λ early. t.new x low high early b ∙ accumulated_below d (entries l) x h)
    (λ late. t.later x late b))
    (λ high. t.upper x high b))

pub none-taken : (d : ℕ) (l : List ℤ) → Taken d 0 0 (length l) l l
unfolding entries
none-taken d l =
    record {
      len = refl;
      new = λ x low high _ _. absurd (not-suc-le-zero high);
      lower = λ x h b. refl;
      upper = λ x h b. refl;
      later = λ x h b. refl;
    }

-- the chains below c are taken, and then a group of the others
module _ {d c : ℕ} (one : 1 ≤ d) {l m : List ℤ} (p : Taken d 0 c (length l) l m) where
  -- a chain that was not taken yet makes the same of both
  pub same_new : (x : ℕ) → c ≤ x % d → x < length l → accumulated d (entries m) x ≡ accumulated d (entries l) x
  unfolding entries
  same_new x high b =
      same_chain d one (entries m) (entries l) x (λ k r h. p.upper k (omega (arith, r)) (omega arith))

  pub group_after : {to : ℕ} {m' : List ℤ} → c ≤ to → Taken d c to (length m) m m' → Taken d 0 to (length l) l m'
  unfolding entries
  group_after {to} up q =
      record {
        len = q.len ∙ p.len;
        new = λ x _ high below b.
            by_order (x % d) c
            (λ low. q.lower x low (omega (arith, p.len)) ∙ p.new x (omega arith) low below b)
            (λ low. q.new x low high (omega (arith, p.len)) (omega (arith, p.len)) ∙ same_new x low b);
        lower = λ x h b. absurd (not-suc-le-zero h);
        upper = λ x h b. q.upper x h (omega (arith, p.len)) ∙ p.upper x (omega arith) b;
        later = λ x h b. absurd (clash b h);
      }

-- a place from the second row on is of a chain that has more than one entry
pub longer : {d n : ℕ} → 1 ≤ d → (x : ℕ) → d ≤ x → x < n → x % d < min d (n - d)
longer {d} one x h b = omega (arith, mod-lt x one, mod-eq-sub-mod {n = x} {m = d} h, mod-le (x - d) d)

-- all of these are taken
pub all-taken : {d to : ℕ} → 1 ≤ d → {l m : List ℤ} → min d (length l - d) ≤ to → Taken d 0 to (length l) l m
    → m ≡ step_list accumulate d l
unfolding step_list stepped
all-taken {d} {to} one {l} {m} e t =
    is_firsts (length l) (accumulated d (entries l)) m t.len
    (λ x b.
    by_order x d (λ h. first_stays t x h b ∙ sym (accumulated_below d (entries l) x h))
    (λ h. t.new x (omega arith) (lt_of_lt_of_le (longer one x h b) e) b b))

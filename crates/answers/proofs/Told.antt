-- What the requests that answer with an `Answer` share: what a refusal tells, an answer without its additions, answers
-- that agree field by field, and what is written in front of a buffer.
use Prim.Native.Nat.{ℕ, suc, ◌+◌}
use mathlib.Core.Path.{◌≡◌, sym, ◌∙◌, ap, ap₂}
use mathlib.Core.List.{List, ◌++◌}
use native.Mathlib.Numerals.{add-one}
use lib.ListN.{length, drop}
use lib.IntN.{ℤ}
use Rattle.definitions.specs.Codes.{DONE}
use Rattle.definitions.specs.Integers.{0ℤ}
use Rattle.definitions.specs.Requests.{written}
use Rattle.answers.specs.declared.Answer.{Answer}

-- nothing is told but a code and a degree
abbrev pub told-only : ℕ → ℕ → Answer
told-only c d = record { code = c; degree = d; additions = 0; height = 0; peak = 0; gain = 0ℤ }

-- an answer with the additions put to 0: cascades and the second engine count none
unfoldable pub uncounted : Answer → Answer
uncounted a =
    record {
      code = a.code;
      degree = a.degree;
      additions = 0;
      height = a.height;
      peak = a.peak;
      gain = a.gain;
    }

-- two deliveries that agree in every field
pub same_done : {x y z v x' y' z' v' : ℕ} {u u' : ℤ} → x ≡ x' → y ≡ y' → z ≡ z' → v ≡ v' → u ≡ u'
    → ◌≡◌ {A = Answer} (record { code = DONE; degree = x; additions = y; height = z; peak = v; gain = u })
    (record { code = DONE; degree = x'; additions = y'; height = z'; peak = v'; gain = u' })
same_done p q r t s i =
    record { code = DONE; degree = p i; additions = q i; height = r i; peak = t i; gain = s i }

-- d + 1 entries in front, d being the degree as it was computed
pub in_front : {d e : ℕ} (l : List ℤ) {m : List ℤ} (new : List ℤ) → d ≡ e → length new ≡ suc e → m ≡ new
    → m ++ drop (d + 1) l ≡ written new l
unfolding written
in_front {d} {e} l new is len q =
    ap₂ (λ x k. x ++ drop k l) q (ap (λ x. x + 1) is ∙ add-one e ∙ sym len)

-- `request_lines::kind_of` meets its contract, letter by letter.
use Rattle.std.proofs.Common.{◌≡◌, ℕ, false, refl, rules}
use borrow.Author.Tests.{ne_eqb}
use Rattle.definitions.specs.Requests.{known_kind}
use Rattle.request_lines.specs.Request.{kind_of}
use Rattle.request_lines.proofs.kind_of.Goals as goal

pub returns-in-70 : goal.returns-in-70
unfolding kind_of known_kind
returns-in-70 c = rw c.in-70.is (refl, refl)

pub returns-in-73 : goal.returns-in-73
unfolding kind_of known_kind
returns-in-73 c = rw c.in-73.is (refl, refl)

unknown : (letter : ℕ) → (letter ≡ 70 → ⊥) → (letter ≡ 73 → ⊥) → known_kind (kind_of letter) ≡ false
unfolding kind_of known_kind
unknown letter f i = simp (ne_eqb letter 70 f, ne_eqb letter 73 i)

pub returns-in_default : goal.returns-in_default
returns-in_default c = unknown _ (search rules) (search rules)

-- The head of a reply, put in parts.
use mathlib.Core.List.{List, [], ◌∷◌, append_assoc}
use Prim.Native.Nat.{ℕ}
use lib.IntN.{pos}
use Rattle.answers.specs.declared.Answer.{Answer}
use Rattle.text.specs.Text.{SPACE, COLON, spaced}
use Rattle.text.specs.Puts.{Puts}
use Rattle.text.proofs.Putting.{then, spaced-append}
use Rattle.answer_lines.specs.Printed.{letter_of, head_of}

-- a head in its six parts
pub put_headed : (kind n : ℕ) (a : Answer) {at p₁ p₂ p₃ p₄ p₅ p₆ : ℕ} {l m₁ m₂ m₃ m₄ m₅ m₆ : List ℕ}
    → Puts (letter_of kind ∷ []) at l m₁ p₁ → Puts (spaced (pos n ∷ pos a.code ∷ pos a.degree ∷ [])) p₁ m₁ m₂ p₂
    → Puts (spaced (pos a.additions ∷ pos a.height ∷ pos a.peak ∷ [])) p₂ m₂ m₃ p₃
    → Puts (spaced (a.gain ∷ [])) p₃ m₃ m₄ p₄ → Puts (SPACE ∷ []) p₄ m₄ m₅ p₅ → Puts (COLON ∷ []) p₅ m₅ m₆ p₆
    → Puts (head_of kind n a) at l m₆ p₆
unfolding head_of
put_headed kind n a b c d e f g =
    rw (
      spaced-append (pos n ∷ pos a.code ∷ pos a.degree ∷ [])
          (pos a.additions ∷ pos a.height ∷ pos a.peak ∷ a.gain ∷ []),
      append_assoc,
      spaced-append (pos a.additions ∷ pos a.height ∷ pos a.peak ∷ []) (a.gain ∷ []),
      append_assoc,
    )
    (then b (then c (then d (then e (then f g)))))

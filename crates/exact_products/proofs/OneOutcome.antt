-- For each input that its `requires` admits the contract of a function leaves one outcome: two that meet it, as the
-- checker reads it off the clauses, give the same answer, and where a product is told to be in range, the same product.
use mathlib.Core.Path.{◌≡◌, refl, sym, ◌∙◌}
use mathlib.Core.Bool.{true}
use Rattle.std.specs.Prelude.{Result, Ok, Err, is_ok}
use Rattle.exact_products.specs.declared.Over.{Over}
use contract.Lifetimes.{Lfts}
use borrow.Fn.Kinds.{ended_of}
use borrow.Fn.World.{ArgsD, ResD}
use denote.Triple.Clauses.{AtExit}
use Rattle.exact_products.specs.contracts.weight_of as weight-of
use Rattle.exact_products.proofs.weight_of.Kinds as weight-of-kinds
use Rattle.exact_products.proofs.weight_of.Reads as weight-of-reads
use Rattle.exact_products.specs.contracts.multiply as multiply
use Rattle.exact_products.proofs.multiply.Kinds as multiply-kinds
use Rattle.exact_products.proofs.multiply.Reads as multiply-reads

pub weight-of-one :
    (κs : Lfts 1) (a : ArgsD weight-of.signature κs) (z z' : ResD weight-of.signature κs)
    (e e' : AtExit (ended_of 1 weight-of-kinds.ps weight-of-kinds.r) κs)
    → weight-of-reads.Post κs a z e → weight-of-reads.Post κs a z' e' → z ≡ z'
weight-of-one κs a z z' e e' p p' = p ∙ sym p'

-- an answer without a value, from whether it is delivered
same_answer : (r r' : Result Unit Over) → is_ok r ≡ is_ok r' → r ≡ r'
same_answer (Ok x) (Ok y) e = refl
same_answer (Ok x) (Err y) e = absurd (cc)
same_answer (Err x) (Ok y) e = absurd (cc)
same_answer (Err x) (Err y) e = refl

pub multiply-one :
    (κs : Lfts 2) (a : ArgsD multiply.signature κs) (z z' : ResD multiply.signature κs)
    (e e' : AtExit (ended_of 2 multiply-kinds.ps multiply-kinds.r) κs)
    → multiply-reads.Post κs a z e → multiply-reads.Post κs a z' e'
    → (z ≡ z') × (is_ok z ≡ true → e.0.now ≡ e'.0.now)
multiply-one κs a z z' e e' p p' =
    let same : is_ok z ≡ is_ok z' = p.0 ∙ sym p'.0 in
    (same_answer z z' same, λ t. p.1.0 t ∙ sym (p'.1.0 (sym same ∙ t)))

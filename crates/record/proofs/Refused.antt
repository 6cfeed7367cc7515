-- What a code says: no two of the refusals have the same, and none has 0. And no refusal but that of a field tells a byte.
use Rattle.std.proofs.Common.{◌≡◌, ℕ, List, [], ◌∷◌, get_or, refl, sym, ap, ◌∙◌}
use Rattle.std.specs.Prelude.{Result, Ok, Err, ⊤}
use Rattle.definitions.specs.Codes.{DONE}
use Rattle.answers.specs.Refusals.{number_of, code_of}
use Rattle.answers.specs.declared.Refusal.{Refusal}
use Rattle.answers.specs.declared.Refusal.TheVariants as R

-- by their codes; 10 is none
abbrev outcomes : List (Result ⊤ Refusal)
outcomes =
    Ok tt ∷ Err R.Kind ∷ Err R.Index ∷ Err R.Limit ∷ Err R.Short ∷ Err R.Over ∷ Err R.Tall ∷ Err R.Step ∷ Err R.Cut ∷ Err R.Mark ∷ Ok tt ∷ Err R.Width ∷ Err R.RecordKind ∷ Err R.RecordWidth ∷ Err R.RecordIndex ∷ Err R.RecordCount ∷ Err R.List ∷ Err R.Absent ∷ Err R.Uneven ∷ Err R.Point ∷ Err R.Coarse ∷ Err R.Range ∷ Err R.Rows ∷ []

back : (z : Result ⊤ Refusal) → get_or outcomes (code_of z) (Ok tt) ≡ z
back (Ok x) = refl
back (Err R.Kind) = refl
back (Err R.Index) = refl
back (Err R.Limit) = refl
back (Err R.Short) = refl
back (Err R.Over) = refl
back (Err R.Tall) = refl
back (Err R.Step) = refl
back (Err R.Cut) = refl
back (Err R.Mark) = refl
back (Err R.Width) = refl
back (Err R.RecordKind) = refl
back (Err R.RecordWidth) = refl
back (Err R.RecordIndex) = refl
back (Err R.RecordCount) = refl
back (Err R.List) = refl
back (Err R.Absent) = refl
back (Err R.Uneven) = refl
back (Err R.Point) = refl
back (Err R.Coarse) = refl
back (Err R.Range) = refl
back (Err R.Rows) = refl

pub same_code : (z z' : Result ⊤ Refusal) → code_of z ≡ code_of z' → z ≡ z'
same_code z z' e = sym (back z) ∙ ap (λ (k : ℕ). get_or outcomes k (Ok tt)) e ∙ back z'

pub same_number : (r r' : Refusal) → number_of r ≡ number_of r' → r ≡ r'
same_number r r' e = let f = same_code (Err r) (Err r') e in cc

pub not_done : (r : Refusal) → number_of r ≡ DONE → ⊥
not_done r e = let f = same_code (Err r) (Ok tt) e in cc

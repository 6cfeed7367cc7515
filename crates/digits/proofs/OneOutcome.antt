-- One outcome for each input, of the functions that ask nothing: two answers that meet the contract, as the checker
-- reads it off the clauses, are equal. No buffer is written.
use mathlib.Core.Path.{◌≡◌, sym, ◌∙◌, refl}
use mathlib.Core.Bool.{true≢false}
use mathlib.Core.List.{List}
use Prim.Native.Nat.{ℕ}
use Rattle.std.specs.Prelude.{Option, None, Some}
use Rattle.digits.specs.Digits.{IsNumber}
use contract.Lifetimes.{Lfts}
use borrow.Fn.Kinds.{ended_of}
use borrow.Fn.World.{ArgsD, ResD}
use denote.Triple.Clauses.{AtExit}
use Rattle.digits.specs.contracts.between as between
use Rattle.digits.proofs.between.Kinds as between-kinds
use Rattle.digits.proofs.between.Reads as between-reads
use Rattle.digits.specs.contracts.byte_at as byte_at
use Rattle.digits.proofs.byte_at.Kinds as byte-at-kinds
use Rattle.digits.proofs.byte_at.Reads as byte-at-reads
use Rattle.digits.specs.contracts.digits_at as digits-at
use Rattle.digits.proofs.digits_at.Kinds as digits-at-kinds
use Rattle.digits.proofs.digits_at.Reads as digits-at-reads
use Rattle.digits.specs.contracts.number as number
use Rattle.digits.proofs.number.Kinds as number-kinds
use Rattle.digits.proofs.number.Reads as number-reads

module _ (κs : Lfts 0) (a : ArgsD between.signature κs) (z z' : ResD between.signature κs)
    (e e' : AtExit (ended_of 0 between-kinds.ps between-kinds.r) κs) where
  pub one-between : between-reads.Post κs a z e → between-reads.Post κs a z' e' → z ≡ z'
  one-between p p' = p ∙ sym p'

module _ (κs : Lfts 1) (a : ArgsD byte_at.signature κs) (z z' : ResD byte_at.signature κs)
    (e e' : AtExit (ended_of 1 byte-at-kinds.ps byte-at-kinds.r) κs) where
  pub one_byte : byte-at-reads.Post κs a z e → byte-at-reads.Post κs a z' e' → z ≡ z'
  one_byte p p' = p ∙ sym p'

module _ (κs : Lfts 1) (a : ArgsD digits-at.signature κs) (z z' : ResD digits-at.signature κs)
    (e e' : AtExit (ended_of 1 digits-at-kinds.ps digits-at-kinds.r) κs) where
  pub one-count : digits-at-reads.Post κs a z e → digits-at-reads.Post κs a z' e' → z ≡ z'
  one-count p p' = p ∙ sym p'

same_number : (line : List ℕ) (place : ℕ) (r r' : Option (ℕ × ℕ)) → IsNumber line place r → IsNumber line place r'
    → r ≡ r'
same_number line place None None h h' = refl
same_number line place None (Some n) h h' = absurd (true≢false (sym h'.0 ∙ h))
same_number line place (Some n) None h h' = absurd (true≢false (sym h.0 ∙ h'))
same_number line place (Some n) (Some n') h h' = λ i. Some ((h.1 ∙ sym h'.1) i, (h.2 ∙ sym h'.2) i)

module _ (κs : Lfts 1) (a : ArgsD number.signature κs) (z z' : ResD number.signature κs)
    (e e' : AtExit (ended_of 1 number-kinds.ps number-kinds.r) κs) where
  pub one_number : number-reads.Post κs a z e → number-reads.Post κs a z' e' → z ≡ z'
  one_number p p' = same_number _ _ z z' p p'

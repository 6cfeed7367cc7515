-- For each input the contract of the public function leaves one outcome: two that meet it, as the checker reads it off
-- the clause, have the same answer, signs of zero and infinities too. Floats are equal here where they are the same
-- value; not-a-number is one value, and its bits are the exception that docs/EVIDENCE.md lists.
use mathlib.Core.Path.{◌≡◌, sym, ◌∙◌}
use contract.Lifetimes.{Lfts}
use borrow.Fn.Kinds.{ended_of}
use borrow.Fn.World.{ArgsD, ResD}
use denote.Triple.Clauses.{AtExit}
use Rattle.response.specs.contracts.response as response
use Rattle.response.proofs.response.Kinds as response-kinds
use Rattle.response.proofs.response.Reads as response-reads

pub response-one :
    (κs : Lfts 1) (a : ArgsD response.signature κs) (z z' : ResD response.signature κs)
    (e e' : AtExit (ended_of 1 response-kinds.ps response-kinds.r) κs)
    → response-reads.Post κs a z e → response-reads.Post κs a z' e' → z ≡ z'
response-one κs a z z' e e' p p' = p ∙ sym p'

-- One outcome for each input: two outcomes of `Step::apply` that meet its contract, read off the function's own
-- clauses, have equal answers and leave equal slices.
use mathlib.Core.Path.{◌≡◌, sym, ◌∙◌}
use contract.Lifetimes.{Lfts}
use borrow.Fn.Kinds.{ended_of}
use borrow.Fn.World.{ArgsD, ResD}
use denote.Triple.Clauses.{AtExit}
use Rattle.steps.specs.contracts.Step.apply
use Rattle.steps.proofs.Step.apply.Reads as reads
use Rattle.steps.proofs.Step.apply.Kinds as kinds

module _ (κs : Lfts 1) (a : ArgsD apply.signature κs) (z z' : ResD apply.signature κs)
    (e e' : AtExit (ended_of 1 kinds.ps kinds.r) κs) (p : reads.Post κs a z e) (p' : reads.Post κs a z' e') where
  pub one_answer : z ≡ z'
  one_answer = λ i. record { code = (p.0 ∙ sym p'.0) i; count = (p.1.0 ∙ sym p'.1.0) i }

  pub one_slice : e.1.1.0.now ≡ e'.1.1.0.now
  one_slice = p.1.1 ∙ sym p'.1.1

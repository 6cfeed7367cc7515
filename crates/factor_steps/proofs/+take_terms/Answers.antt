-- `factor_steps::take_terms` meets its contract, by recursion on the number of primes: a step where there is none, else
-- one product after the other.
use native.Mathlib.Omega.{arith}
use Rattle.entry_steps.specs.Sorts.{sort_means}
use Rattle.factor_steps.specs.Multiplied.{step_multiplies, both_multiply, multiplied_as}
use Rattle.factor_steps.proofs.Recursion.{terms-none, terms_more, due_larger, larger_small, due_same}
use Rattle.factor_steps.proofs.+take_terms.Goals as goal

pub returns-in_default : goal.returns-in_default
returns-in_default t c =
    let q = c.args in
    multiplied_as (terms-none q.primes.now q.s (sort_means q.sort) c.in_default.ensures.cases)
    (step_multiplies (sort_means q.sort) q.s c.requires.size _ _ c.wrapped_step.ensures)

pub overflow_mul-s : goal.overflow_mul-s
overflow_mul-s t c = omega (arith, larger_small _ _ _ c.args.s c.in-Some.ensures.cases c.requires)

pub take_terms-requires : goal.take_terms-requires
take_terms-requires t c =
    let cut = c.in-Some.ensures.cases in
    (omega (arith, c.decreases, cut.1), due_larger _ _ _ c.args.s cut c.requires)

pub take_terms-requires-2 : goal.take_terms-requires-2
take_terms-requires-2 t c =
    let cut = c.in-Some.ensures.cases in
    (omega (arith, c.decreases, cut.1), due_same _ _ _ c.args.s cut c.requires)

pub returns : goal.returns
returns t c =
    multiplied_as (terms_more _ _ _ c.args.s c.in-Some.ensures.cases (sort_means c.args.sort))
    (both_multiply c.take_terms.ensures (rw c.turned.ensures at c.take_terms-2.ensures))

-- `factor_steps::times_factor` meets its contract: the terms that are taken make F(n).
use native.Mathlib.Omega.{arith}
use mathlib.Core.Path.{◌∙◌, ap₂}
use Rattle.definitions.specs.Series.{◌·◌}
use Rattle.factor_steps.specs.Multiplied.{both_multiply, multiplied_as, due_small}
use Rattle.factor_steps.proofs.OfParts.{count_few, even_larger, even_same, even_terms, odd_same, odd_terms}
use Rattle.factor_steps.proofs.Recursion.{due_front, terms-front}
use Rattle.factor_steps.proofs.times_factor.Goals as goal

pub shared_ref_as_front-primes : goal.shared_ref_as_front-primes
shared_ref_as_front-primes c = let few = count_few c.args.parts c.args.n c.requires.0 c.requires.1 in omega arith

pub overflow_mul-parts : goal.overflow_mul-parts
overflow_mul-parts c = omega (arith, due_small _ _ _ (even_larger c.args.parts c.args.n c.requires.0 c.requires.1 c.if-n-eq0.true))

pub take_terms-requires : goal.take_terms-requires
take_terms-requires c =
    let few = count_few c.args.parts c.args.n c.requires.0 c.requires.1 in
    due_front _ _ _ (omega arith) (even_larger c.args.parts c.args.n c.requires.0 c.requires.1 c.if-n-eq0.true)

pub take_terms-requires-then-n-eq0 : goal.take_terms-requires-then-n-eq0
take_terms-requires-then-n-eq0 c =
    let few = count_few c.args.parts c.args.n c.requires.0 c.requires.1 in
    due_front _ _ _ (omega arith) (even_same c.args.parts c.args.n c.requires.0 c.requires.1 c.if-n-eq0.true)

pub returns-then-n-eq0 : goal.returns-then-n-eq0
returns-then-n-eq0 c =
    let few = count_few c.args.parts c.args.n c.requires.0 c.requires.1 in
    multiplied_as (ap₂ ◌·◌ (terms-front _ _ _ (omega arith) _) (terms-front _ _ _ (omega arith) _)
    ∙ even_terms c.args.parts c.args.n c.requires.0 c.requires.1 c.if-n-eq0.true)
    (both_multiply c.take_terms.ensures c.take_terms-then-n-eq0.ensures)

pub take_terms-requires-2 : goal.take_terms-requires-2
take_terms-requires-2 c =
    let few = count_few c.args.parts c.args.n c.requires.0 c.requires.1 in
    due_front _ _ _ (omega arith) (odd_same c.args.parts c.args.n c.requires.0 c.requires.1 c.if-n-eq0.false)

pub returns : goal.returns
returns c =
    let few = count_few c.args.parts c.args.n c.requires.0 c.requires.1 in
    multiplied_as (terms-front _ _ _ (omega arith) _ ∙ odd_terms c.args.parts c.args.n c.requires.0 c.requires.1 c.if-n-eq0.false c.requires.2)
    c.take_terms-2.ensures

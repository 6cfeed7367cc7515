-- `held`: by the shelf that held it.
use Rattle.std.proofs.Common.{arith}
use borrow.Author.Tests.{ne_eqb}
use Rattle.shelves.specs.Lookup.{held_by, held_at}
use Rattle.shelves.proofs.held.Goals as goal

pub returns-in-1-clause-held : goal.returns-in-1-clause-held
unfolding held_by
returns-in-1-clause-held c = rw c.in-1.is c.part.ensures.part

pub returns-in-1-clause-lies : goal.returns-in-1-clause-lies
unfolding held_at
returns-in-1-clause-lies c = rw c.in-1.is c.part.ensures.lies

pub returns-in-2-clause-held : goal.returns-in-2-clause-held
unfolding held_by
returns-in-2-clause-held c = rw c.in-2.is c.part-in-2.ensures.part

pub returns-in-2-clause-lies : goal.returns-in-2-clause-lies
unfolding held_at
returns-in-2-clause-lies c = rw c.in-2.is c.part-in-2.ensures.lies

pub returns-in_default-clause-held : goal.returns-in_default-clause-held
unfolding held_by
returns-in_default-clause-held c =
    rw (ne_eqb c.args.f.from 1 (λ e. omega arith), ne_eqb c.args.f.from 2 (λ e. omega arith))
    c.part-in_default.ensures.part

pub returns-in_default-clause-lies : goal.returns-in_default-clause-lies
unfolding held_at
returns-in_default-clause-lies c =
    rw (ne_eqb c.args.f.from 1 (λ e. omega arith), ne_eqb c.args.f.from 2 (λ e. omega arith))
    c.part-in_default.ensures.lies

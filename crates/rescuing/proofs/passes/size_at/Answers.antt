-- `size_at`: where there are bytes they are a record that is kept (Searches).
use Rattle.std.proofs.Common.{length, sym, ap}
use borrow.Author.Tests.{eqb-false}
use Rattle.rescuing.proofs.Searches.{right_header}
use Rattle.rescuing.proofs.passes.size_at.Goals as goal

pub size_in-requires : goal.size_in-requires
size_in-requires c =
    right_header _ (λ e. eqb-false _ _ (sym c.if-is_empty.ensures) (ap length e)) c.requires

-- `digits::number` meets its contract: one to nine digits are at most nine.
use Rattle.std.proofs.Common.{sym, ◌∙◌}
use Rattle.digits.proofs.Digits.{nine_range}
use Rattle.digits.proofs.number.Goals as goal

pub number_at-requires : goal.number_at-requires
number_at-requires c =
    (c.digits_at-count.ensures, (nine_range _ (sym c.between.ensures ∙ c.if-not-between.false)).1)

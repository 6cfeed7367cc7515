-- `take_factor` meets its contract: what it asks and comes to is in Extending.
use mathlib.Core.Path.{refl, ◌∙◌, ap}
use Rattle.std.specs.Prelude.{is_ok}
use Rattle.index.proofs.Laws.{taken_good}
use Rattle.next_factor.proofs.Extending.{factor-asked, turns_asked, gain-over, coefficient_over, extended}
use Rattle.next_factor.proofs.take_factor.Goals as goal

pub size_of-size-requires : goal.size_of-size-requires
size_of-size-requires c =
    let (_, room) = c.requires in (room.good, c.take_apart-parts.ensures ∙ taken_good _ room.good)

pub returns-then-not-product_fits-clause-taken : goal.returns-then-not-product_fits-clause-taken
returns-then-not-product_fits-clause-taken c =
    let (known, room) = c.requires in
    gain-over known room c.size_of-size.ensures c.product_fits.ensures c.if-not-product_fits.true refl

pub times-requires : goal.times-requires
times-requires c =
    let (known, room) = c.requires in (
      factor-asked known room c.size_of-size.ensures (c.take_apart-parts.ensures ∙ taken_good _ room.good),
      turns_asked known room c.size_of-size.ensures c.turned_by-turned.ensures,
      room.factor,
    )

pub returns-in_err-times-clause-taken : goal.returns-in_err-times-clause-taken
returns-in_err-times-clause-taken c =
    let (known, room) = c.requires in
    coefficient_over known room c.size_of-size.ensures c.times.ensures (ap is_ok c.in_err-times.was)
    c.from_residual.ensures.0

pub returns-clause-taken : goal.returns-clause-taken
returns-clause-taken c =
    let (known, room) = c.requires in
    extended known room c.size_of-size.ensures c.times.ensures (ap is_ok c.in_ok-times.was) c.product_fits.ensures
    c.if-not-product_fits.false c.turned_by-turned.ensures c.peak-top.ensures

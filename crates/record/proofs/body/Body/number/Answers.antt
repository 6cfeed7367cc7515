-- `number`: entry i stands from 10 + i * W on (Passes).
use Rattle.std.proofs.Common.{◌≡◌, ◌∙◌, sym, ap, length, arith}
use Rattle.definitions.specs.Steps.{entries}
use Rattle.widths.specs.Numbers.{signed_of}
use Rattle.record.proofs.Passes.{room, entry_at, length_at}
use Rattle.record.proofs.body.Body.number.Goals as goal

pub overflow_mul-i : goal.overflow_mul-i
overflow_mul-i g c =
    let count = c.self.inside.count in
    let long : count ≡ length c.args.self.now = sym (length_at g.row.W count _) ∙ ap length c.self.view_is in
    omega (arith, room g.row.W count c.args.i (omega (arith, long)))

pub overflow_add-i : goal.overflow_add-i
overflow_add-i g c =
    let count = c.self.inside.count in
    let long : count ≡ length c.args.self.now = sym (length_at g.row.W count _) ∙ ap length c.self.view_is in
    omega (arith, room g.row.W count c.args.i (omega (arith, long)))

pub get-requires : goal.get-requires
get-requires g c =
    let count = c.self.inside.count in
    let i = c.args.i in
    let long : count ≡ length c.args.self.now = sym (length_at g.row.W count _) ∙ ap length c.self.view_is in
    (c.self.invariant.0, omega (arith, room g.row.W count i (omega (arith, long))))

pub returns : goal.returns
returns g c =
    let count = c.self.inside.count in
    let i = c.args.i in
    let long : count ≡ length c.args.self.now = sym (length_at g.row.W count _) ∙ ap length c.self.view_is in (
      c.self.invariant.0,
      ap (signed_of g.row.W) c.get.ensures.0 ∙ entry_at g.row.W count i _ (omega (arith, long))
          ∙ ap (λ l. entries l i) c.self.view_is,
      c.get.ensures.1,
    )

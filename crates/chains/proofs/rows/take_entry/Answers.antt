-- `chains::rows::take_entry` meets its contract: both numbers fit, so they are as they were read, and so does a sum
-- that is within w.
use Prim.Native.Nat.{◌+◌}
use Rattle.std.proofs.Common.{rules, SFits, get_or}
use Rattle.std.specs.Int.{w64}
use Rattle.definitions.specs.Integers.{◌⊕◌, 0ℤ}
use Rattle.definitions.specs.Steps.{accumulate}
use Rattle.step_laws.specs.Machine.{seen_both}
use Rattle.entry_steps.proofs.Values.{told, value_fits}
use Rattle.chains.proofs.rows.take_entry.Goals as goal

pub new_value-v-requires : goal.new_value-v-requires
new_value-v-requires g c =
    let p = c.args in
    let x : SFits w64 (get_or p.a.now (p.k + p.q) 0ℤ) = search rules in
    let y : SFits w64 (get_or p.s.now p.q 0ℤ) = search rules in
    rw (seen_both x y ◌⊕◌)
    (value_fits c.requires.2 _ (told x y accumulate p.w c.passes.ensures c.if-not-passes.false))

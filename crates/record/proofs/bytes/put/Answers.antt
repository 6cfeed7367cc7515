-- `put`: what is left to store, stored from `i` on, gives the whole number stored from `at` on (Passes).
use Rattle.std.proofs.Common.{sym, ◌∙◌}
use Rattle.record.proofs.Passes.{put_turn, put_none}
use Rattle.record.proofs.bytes.put.Goals as goal

pub loop-i-preserved : goal.loop-i-preserved
loop-i-preserved c = put_turn _ _ _ _ c.loop-i-test.true ∙ c.loop-i.invariant

pub returns : goal.returns
returns c = sym (put_none _ _ _ _ c.loop-i-test.false) ∙ c.loop-i.invariant

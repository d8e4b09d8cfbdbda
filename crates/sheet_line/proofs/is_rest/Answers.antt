use Rattle.sheet_line.proofs.Scans.{gone_more, gone_told, gone_over}
use Rattle.sheet_line.proofs.is_rest.Goals as goal

pub loop-i-preserved : goal.loop-i-preserved
loop-i-preserved c = gone_more _ _ _ _ _ c.loop-i.invariant c.loop-i-test.true _ (rw (← c.at.ensures, ← c.node_in.ensures) c.back_step.ensures) _ c.in-Continue.is

pub returns-in-Break : goal.returns-in-Break
returns-in-Break c = gone_told _ _ _ _ _ c.loop-i.invariant c.loop-i-test.true _ (rw (← c.at.ensures, ← c.node_in.ensures) c.back_step.ensures) _ c.in-Break.is

pub returns : goal.returns
returns c = gone_over _ _ _ _ _ c.loop-i.invariant c.loop-i-test.false

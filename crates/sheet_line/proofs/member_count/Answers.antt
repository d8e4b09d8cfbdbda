use Rattle.sheet_line.proofs.Scans.{over_more, over_done, over_ended}
use Rattle.sheet_line.proofs.member_count.Goals as goal

pub loop-i-preserved : goal.loop-i-preserved
loop-i-preserved c =
    over_more _ _ _ _ _ _ c.loop-i.invariant c.loop-i-test.true _
    (rw (← c.node_in.ensures) c.member_step.ensures)
    _ c.in-Some.is

pub returns-after-loop-i : goal.returns-after-loop-i
returns-after-loop-i c = over_ended _ _ _ _ _ _ c.loop-i.invariant c.loop-i-test.false

pub returns-in_default : goal.returns-in_default
returns-in_default c = over_done _ _ _ _ _ _ c.loop-i.invariant c.loop-i-test.true _ (rw (← c.node_in.ensures) c.member_step.ensures) c.in_default.is

use native.Mathlib.Omega.{arith}
use Rattle.untranslate_condition.proofs.Leads.{branch_counted, branches_counted, branches_ended}
use Rattle.untranslate_condition.proofs.past_branches.Goals as goal

pub returns-then-left-eq0 : goal.returns-then-left-eq0
returns-then-left-eq0 c = branches_counted _ _ _ _ _ c.loop-k.auto.k c.loop-k.invariant.0 c.loop-k.invariant.1 c.loop-k-test.true c.if-left-eq0.true

pub loop-k-preserved : goal.loop-k-preserved
loop-k-preserved c = (
  omega arith,
  branch_counted _ _ _ _ _ c.loop-k.auto.k c.loop-k.invariant.0 c.loop-k.invariant.1 c.loop-k-test.true c.if-left-eq0.false _ c.left_behind-left.ensures,
)

pub returns : goal.returns
returns c = branches_ended _ _ _ _ _ c.loop-k.auto.k c.loop-k.invariant.0 c.loop-k.invariant.1 c.loop-k-test.false _ c.max.ensures

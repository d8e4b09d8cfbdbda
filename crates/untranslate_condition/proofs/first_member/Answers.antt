use native.Mathlib.Omega.{arith}
use Rattle.untranslate_condition.proofs.Members.{member_on, member_over, member_last}
use Rattle.untranslate_condition.proofs.first_member.Goals as goal

pub returns-in_default : goal.returns-in_default
returns-in_default c = member_over _ _ _ _ c.loop-k.auto.k c.loop-k.invariant.0 c.loop-k.invariant.1 c.loop-k-test.true _ c.step_at.ensures c.in_default.is

pub loop-k-preserved : goal.loop-k-preserved
loop-k-preserved c = (
  omega arith,
  member_on _ _ _ _ c.loop-k.auto.k c.loop-k.invariant.0 c.loop-k.invariant.1 c.loop-k-test.true _ c.step_at.ensures _ c.in-Some.is,
)

pub returns : goal.returns
returns c = member_last _ _ _ _ c.loop-k.auto.k c.loop-k.invariant.0 c.loop-k.invariant.1 c.loop-k-test.false _ c.max.ensures

use Rattle.untranslate_condition.proofs.Members.{step_over, step_on}
use Rattle.untranslate_condition.proofs.step_at.Goals as goal

pub returns-then-far-k : goal.returns-then-far-k
returns-then-far-k c = step_over _ _ _ _ _ _ c.in-Some.ensures _ c.further-far.ensures c.if-far-k.true

pub returns-else-far-k : goal.returns-else-far-k
returns-else-far-k c = step_on _ _ _ _ _ _ c.in-Some.ensures _ c.further-far.ensures c.if-far-k.false

use Rattle.translate_condition.proofs.Tries.{no_cond, some_cond}
use Rattle.translate_condition.proofs.put_cond.Goals as goal

pub returns-then-count-le1 : goal.returns-then-count-le1
returns-then-count-le1 c = no_cond _ _ _ c.if-count-le1.true

pub returns : goal.returns
returns c = some_cond _ _ _ c.if-count-le1.false _ _ c.put_order.ensures

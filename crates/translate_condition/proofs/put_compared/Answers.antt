use Rattle.translate_condition.proofs.Tries.{branch_put}
use Rattle.translate_condition.proofs.put_compared.Goals as goal

pub returns : goal.returns
returns c = branch_put _ _ _ _ _ _ _ _ _ c.put_comparison-c.ensures _ _ c.put_order.ensures

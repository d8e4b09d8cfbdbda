use Rattle.translate_part.proofs.Parts.{ending_put}
use Rattle.translate_part.proofs.put_last.Goals as goal

pub returns : goal.returns
returns c = ending_put _ _ _ _ _ _ _ _ c.put_expression-e.ensures _ _ c.put_order.ensures

use Rattle.translate_expression.proofs.Turns.{compared}
use Rattle.translate_expression.proofs.put_comparison.Goals as goal

pub returns : goal.returns
returns c = compared _ _ _ _ _ _ _ c.put_expression-s.ensures _ c.right_step-step.ensures _ _ c.put_step.ensures

use Rattle.translate_size.proofs.Conditions.{comparison_counted}
use Rattle.translate_size.proofs.comparison_size.Goals as goal

pub returns : goal.returns
returns c = comparison_counted _ _ _ c.past.ensures _ c.expression_size-first.ensures _ c.right_step-step.ensures _ c.step_size-both.ensures _ c.saturating_add.ensures

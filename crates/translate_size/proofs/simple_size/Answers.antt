use Rattle.translate_size.proofs.Statements.{worked_counted}
use Rattle.translate_size.proofs.simple_size.Goals as goal

pub returns-in_default : goal.returns-in_default
returns-in_default c = worked_counted _ _ _ c.field_at.ensures _ c.past-in_default.ensures c.in_default.not-Goto _ c.expression_size-e.ensures _ c.saturating_add.ensures

use Rattle.translate_size.proofs.Statements.{size_if, size_simple}
use Rattle.translate_size.proofs.size_of.Goals as goal

pub returns-in-If : goal.returns-in-If
returns-in-If c = size_if _ _ c.field_at.ensures c.in-If.is _ c.if_size.ensures

pub returns-in_default : goal.returns-in_default
returns-in_default c = size_simple _ _ c.field_at.ensures c.in_default.not-If _ c.simple_size-u.ensures

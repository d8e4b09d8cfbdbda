use mathlib.Core.Path.{sym, ◌∙◌}
use Rattle.fields_put.proofs.Leading.{lead_none, lead_unset, lead_set}
use Rattle.fields_put.proofs.lead_jump.Goals as goal

pub returns-in_default : goal.returns-in_default
returns-in_default c = lead_none _ _ _ _ _ c.field_at.ensures _ c.jump_of.ensures c.in_default.is

pub returns-in_default-number_of : goal.returns-in_default-number_of
returns-in_default-number_of c = lead_unset _ _ _ _ _ c.field_at.ensures _ c.jump_of.ensures _ c.in-Some.is (sym c.in_default-number_of.is ∙ c.number_of.ensures)

pub returns : goal.returns
returns c = lead_set _ _ _ _ _ c.field_at.ensures _ c.jump_of.ensures _ c.in-Some.is _ (sym c.in-Some-number_of.is ∙ c.number_of.ensures) _ c.store.ensures

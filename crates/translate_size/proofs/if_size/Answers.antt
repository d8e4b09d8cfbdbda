use Rattle.translate_size.proofs.Statements.{if_started, if_whole, if_two}
use Rattle.translate_size.proofs.if_size.Goals as goal

pub returns-then-fields-p : goal.returns-then-fields-p
returns-then-fields-p c = if_started _ _ c.condition_size-c.ensures _ c.past-p.ensures c.if-fields-p.true

pub returns-in-Else : goal.returns-in-Else
returns-in-Else c = if_two _ _ c.condition_size-c.ensures _ c.past-p.ensures c.if-fields-p.false _ c.simple_size-u.ensures _ c.field_at.ensures _ _ c.saturating_add-orders.ensures c.max-temporaries.ensures c.in-Else.is _ c.past.ensures _ c.simple_size-w.ensures _ _ _ c.saturating_add.ensures c.saturating_add-in-Else.ensures c.max.ensures

pub returns-in_default : goal.returns-in_default
returns-in_default c = if_whole _ _ c.condition_size-c.ensures _ c.past-p.ensures c.if-fields-p.false _ c.simple_size-u.ensures _ c.field_at.ensures _ _ c.saturating_add-orders.ensures c.max-temporaries.ensures c.in_default.not-Else

use Rattle.untranslate_expression.proofs.Places.{past_inside}
use Rattle.untranslate_expression.proofs.past.Goals as goal

pub returns-then-at-orders : goal.returns-then-at-orders
returns-then-at-orders c = past_inside _ _ c.if-at-orders.true

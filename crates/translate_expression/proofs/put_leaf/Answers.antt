use mathlib.Core.Path.{sym, ◌∙◌}
use Rattle.translate_expression.proofs.Turns.{leaf_put, no_leaf}
use Rattle.translate_expression.proofs.put_leaf.Goals as goal

pub returns-in-Some : goal.returns-in-Some
returns-in-Some c = λ word none. leaf_put _ _ _ _ word _ (sym c.in-Some.is ∙ c.right_at.ensures.found) _ c.order_on.ensures _ _ c.put_order.ensures

pub returns-in-None : goal.returns-in-None
returns-in-None c = λ word none. no_leaf _ _ _ _ word (sym c.in-None.is ∙ c.right_at.ensures.found) none

use mathlib.Core.Path.{sym, ◌∙◌}
use Rattle.untranslate_condition.proofs.Conditions.{compared_none, compared_put}
use Rattle.untranslate_condition.proofs.read_comparison.Goals as goal

pub returns-in_default : goal.returns-in_default
returns-in_default c = compared_none _ _ _ _ _ _ _ _ c.read_expression-s.ensures (sym c.in_default.is ∙ c.lead_at.ensures)

pub returns : goal.returns
returns c = compared_put _ _ _ _ _ _ _ _ c.read_expression-s.ensures _ _ c.in-Some.ensures _ c.related.ensures _ _ c.put_field.ensures

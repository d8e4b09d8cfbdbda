use mathlib.Core.Path.{sym, ◌∙◌}
use Rattle.untranslate_part.proofs.Chains.{untold, chained_last, chained_asks, chained_missing}
use Rattle.untranslate_part.proofs.read_chain.Goals as goal

pub returns-in-Last : goal.returns-in-Last
returns-in-Last c = chained_last _ _ _ _ _ _ c.read_expression-e.ensures c.requires _ (sym c.in-Last.is ∙ c.role_at.ensures) _ _ c.put_field.ensures _ c.past.ensures

pub returns-in-Branch : goal.returns-in-Branch
returns-in-Branch c = chained_asks _ _ _ _ _ _ c.read_expression-e.ensures c.requires _ _ (sym c.in-Branch.is ∙ c.role_at.ensures) _ c.put_if.ensures _ c.past-in-Branch.ensures

pub returns-in_default : goal.returns-in_default
returns-in_default c = chained_missing _ _ _ _ _ _ c.read_expression-e.ensures c.requires _ c.role_at.ensures (untold _ c.in_default.not-Last c.in_default.not-Branch)

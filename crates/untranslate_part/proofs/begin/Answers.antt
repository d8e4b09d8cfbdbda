use mathlib.Core.Path.{sym, ◌∙◌}
use Rattle.untranslate_part.proofs.Chains.{unbegun, begin_chain, begin_goto, begin_joined, begin_missing}
use Rattle.untranslate_part.proofs.begin.Goals as goal

pub returns-in-Inside : goal.returns-in-Inside
returns-in-Inside c = begin_chain _ _ _ _ _ (sym c.in-Inside.is ∙ c.role_at.ensures) _ _ c.read_chain.ensures

pub returns-in-Goto : goal.returns-in-Goto
returns-in-Goto c = begin_goto _ _ _ _ _ _ (sym c.in-Goto.is ∙ c.role_at.ensures) _ c.at.ensures _ _ c.put_field-m.ensures _ c.past.ensures

pub returns-in-Cond : goal.returns-in-Cond
returns-in-Cond c = begin_joined _ _ _ _ _ _ (sym c.in-Cond.is ∙ c.role_at.ensures) _ _ c.read_joined.ensures

pub returns-in_default : goal.returns-in_default
returns-in_default c = begin_missing _ _ _ _ _ _ c.role_at.ensures (unbegun _ c.in_default.not-Inside c.in_default.not-Goto c.in_default.not-Cond)

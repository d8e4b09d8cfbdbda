use native.Mathlib.Omega.{arith}
use Rattle.untranslate_condition.proofs.Leads.{lead_low, lead_branch, lead_high}
use Rattle.untranslate_condition.proofs.lead_of.Goals as goal

pub returns-in-5-to-10 : goal.returns-in-5-to-10
returns-in-5-to-10 c = lead_branch _ (omega arith) (omega arith) _ c.relation.ensures

pub returns-in_default : goal.returns-in_default
returns-in_default c = lead_low _ (omega arith)

pub returns-in_default-2 : goal.returns-in_default-2
returns-in_default-2 c = lead_high _ (omega arith) (omega arith)

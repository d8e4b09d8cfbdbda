use mathlib.Core.Path.{refl, sym, ◌∙◌}
use Rattle.base.proofs.Cases.{pick_yes, pick_no}
use Rattle.grammar_member.proofs.last_by.Goals as goal

pub returns-in-Some : goal.returns-in-Some
returns-in-Some c = rw c.in-Some.is (pick_no _ _ _ _ (sym c.is_run_by.ensures ∙ c.if-not-is_run_by.true) refl)

pub returns-in_default : goal.returns-in_default
returns-in_default c = rw c.in-Some.is (pick_yes _ _ _ _ (sym c.is_run_by.ensures ∙ c.if-not-is_run_by.false) refl)

use mathlib.Core.Path.{sym, ◌∙◌}
use native.Mathlib.Omega.{arith}
use Rattle.translate_size.proofs.Conditions.{run_on, compared_on}
use Rattle.translate_size.proofs.Looking.{run_inside}
use Rattle.translate_size.proofs.one_more.Goals as goal

pub overflow_add-result : goal.overflow_add-result
overflow_add-result c = let h = run_inside c.args.fields.now c.args.s.at _ _ (sym c.in-Run.is ∙ c.field_at.ensures) in omega (arith, h, c.requires.1)

pub returns-in-Run : goal.returns-in-Run
returns-in-Run c = run_on _ _ c.requires.0 c.requires.1 _ c.field_at.ensures _ _ c.in-Run.is _ c.past.ensures _ c.saturating_add.ensures

pub returns-in_default : goal.returns-in_default
returns-in_default c = compared_on _ _ c.requires.0 c.requires.1 _ c.field_at.ensures c.in_default.not-Run _ c.comparison_size-c.ensures _ _ c.saturating_add-in_default.ensures c.max.ensures

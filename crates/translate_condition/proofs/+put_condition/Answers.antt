use mathlib.Core.Path.{refl, sym, ◌∙◌}
use Rattle.translate_condition.proofs.Tries.{none_tried, yes_falls, no_falls, run_tried}
use Rattle.translate_condition.proofs.+put_condition.Goals as goal

pub returns-then-x : goal.returns-then-x
returns-then-x t c = yes_falls _ _ _ _ _ _ _ (rw c.in-Some-Compare.field-0-is at (sym c.in-Some-Compare.is ∙ c.head_at.ensures.found)) _ _ _ _ c.put_compared.ensures c.if-x.true c.opposite_of.ensures refl

pub returns-else-x : goal.returns-else-x
returns-else-x t c = no_falls _ _ _ _ _ _ _ (rw c.in-Some-Compare.field-0-is at (sym c.in-Some-Compare.is ∙ c.head_at.ensures.found)) _ _ _ _ c.put_compared-in-Some-Compare.ensures c.if-x.false refl refl

pub returns-in-Some-Run : goal.returns-in-Some-Run
returns-in-Some-Run t c = run_tried _ _ _ _ _ _ _ (rw c.in-Some-Run.field-0-is at (sym c.in-Some-Run.is ∙ c.head_at.ensures.found)) _ c.trying_size.ensures _ c.behind-next.ensures _ c.first_exits.ensures _ _ c.put_condition-first.ensures _ _ c.put_condition.ensures

pub returns-in-None : goal.returns-in-None
returns-in-None t c = none_tried _ _ _ _ _ _ (sym c.in-None.is ∙ c.head_at.ensures.found)

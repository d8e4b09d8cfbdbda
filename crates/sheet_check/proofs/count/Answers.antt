use mathlib.Core.Path.{ap, ◌∙◌}
use Rattle.sheet_check.specs.Internal.{begins}
use Rattle.sheet_check.proofs.Passes.{count_more, count_all}
use Rattle.sheet_check.proofs.count.Goals as goal

pub loop-w-preserved : goal.loop-w-preserved
loop-w-preserved c = count_more _ _ _ c.loop-w.invariant c.loop-w-test.true _ (c.begins.ensures ∙ ap begins c.field_in.ensures) _ c.from-n.ensures

pub returns : goal.returns
returns c = count_all _ _ _ c.loop-w.invariant c.loop-w-test.false

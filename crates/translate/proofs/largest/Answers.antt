use mathlib.Core.Path.{sym, ◌∙◌}
use Rattle.translate.proofs.Tables.{largest_more, largest_ends}
use Rattle.translate.proofs.largest.Goals as goal

pub loop-w-preserved : goal.loop-w-preserved
loop-w-preserved c = rw (c.max-t.ensures, c.stored_to.ensures) (sym (largest_more _ _ _ _ c.loop-w-test.true)) ∙ c.loop-w.invariant

pub returns : goal.returns
returns c = sym (largest_ends _ _ _ _ c.loop-w-test.false) ∙ c.loop-w.invariant

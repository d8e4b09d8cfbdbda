use mathlib.Core.Path.{refl, sym, ◌∙◌}
use Rattle.translate_size.proofs.Counting.{out_more, out_done, operating, not_operating, step_right}
use Rattle.translate_size.proofs.+expression_size_step_size.Goals as goal

pub expression_size-loop-j-preserved-in-Some : goal.expression_size-loop-j-preserved-in-Some
expression_size-loop-j-preserved-in-Some t c =
    let step = operating _ _ _ _ refl _ (sym c.in-Some.is ∙ c.step_at.ensures) _ c.step_size-s.ensures in
    out_more _ _ _ _ _ _ c.loop-j.invariant c.loop-j-test.true c.leaf_at-leaf.ensures _ step

pub expression_size-loop-j-preserved : goal.expression_size-loop-j-preserved
expression_size-loop-j-preserved t c =
    let step = not_operating _ _ _ _ refl (sym c.in_default.is ∙ c.step_at.ensures) in
    out_more _ _ _ _ _ _ c.loop-j.invariant c.loop-j-test.true c.leaf_at-leaf.ensures _ step

pub expression_size-returns : goal.expression_size-returns
expression_size-returns t c = out_done _ _ _ _ _ _ c.loop-j.invariant c.loop-j-test.false (c.leaf_size-s.ensures c.leaf_at-leaf.ensures.stop)

pub step_size-returns-in-Right : goal.step_size-returns-in-Right
step_size-returns-in-Right t c = step_right _ _ _ c.expression_size-second.ensures _ _ _ _ _ c.saturating_add-in-Right-2.ensures c.saturating_add-in-Right-3.ensures c.saturating_add-in-Right.ensures c.max-beside.ensures c.max.ensures _ _ c.in-Right.is

use mathlib.Core.Path.{refl, sym, ◌∙◌}
use Rattle.translate_expression.proofs.Turns.{out_more, out_falls, out_done, operating, not_operating, step_right, right_put}
use Rattle.translate_expression.proofs.+put_expression_put_step.Goals as goal

pub put_expression-put_step-s-requires : goal.put_expression-put_step-s-requires
put_expression-put_step-s-requires t c =
    let run = c.leaf_at-leaf.ensures in
    let leaf = c.put_leaf-s.ensures c.args.word run.stop in
    (rw (← c.decreases) (out_falls _ _ _ _ _ _ _ _ _ c.loop-j.invariant c.loop-j-test.true run leaf.on), tt)

pub put_expression-loop-j-preserved-in-Some : goal.put_expression-loop-j-preserved-in-Some
put_expression-loop-j-preserved-in-Some t c =
    let step = operating _ _ _ _ _ _ refl _ (sym c.in-Some.is ∙ c.step_at.ensures) _ _ c.put_step-s.ensures in
    out_more _ _ _ _ _ _ _ _ _ c.loop-j.invariant c.loop-j-test.true c.leaf_at-leaf.ensures _ _ step

pub put_expression-loop-j-preserved : goal.put_expression-loop-j-preserved
put_expression-loop-j-preserved t c =
    let step = not_operating _ _ _ _ _ _ refl (sym c.in_default.is ∙ c.step_at.ensures) in
    out_more _ _ _ _ _ _ _ _ _ c.loop-j.invariant c.loop-j-test.true c.leaf_at-leaf.ensures _ _ step

pub put_expression-returns : goal.put_expression-returns
put_expression-returns t c = out_done _ _ _ _ _ _ _ _ _ c.loop-j.invariant c.loop-j-test.false _ _ (c.put_leaf-s.ensures _ c.leaf_at-leaf.ensures.stop)

pub put_step-returns-in-Right : goal.put_step-returns-in-Right
put_step-returns-in-Right t c =
    step_right _ _ _ _ _ _ c.in-Right.is _ _
    (right_put _ _ _ _ _ _ _ _ c.put_order-i.ensures _ c.next-kept.ensures _ _ c.put_expression-second.ensures _ _ c.put_closing.ensures)

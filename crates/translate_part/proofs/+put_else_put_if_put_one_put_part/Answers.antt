use mathlib.Core.Path.{sym, ◌∙◌}
use Rattle.translate_part.proofs.Choices.{none_closed, second_closed, chosen}
use Rattle.translate_part.proofs.Turns.{last_turn, goto_turn, if_turn, loop_more, loop_ends}
use Rattle.translate_part.proofs.+put_else_put_if_put_one_put_part.Goals as goal

pub put_else-returns-then-else_at : goal.put_else-returns-then-else_at
put_else-returns-then-else_at t c = second_closed _ _ _ _ (sym c.else_at.ensures ∙ c.if-else_at.true) _ c.further-j.ensures _ c.past.ensures _ _ c.put_part-y.ensures _ c.behind.ensures _ _ c.put_order.ensures _ c.past-then-else_at.ensures _ c.behind-then-else_at.ensures

pub put_else-returns : goal.put_else-returns
put_else-returns t c = none_closed _ _ _ _ (sym c.else_at.ensures ∙ c.if-else_at.false) _ c.past-2.ensures _ c.behind-2.ensures

pub put_if-returns : goal.put_if-returns
put_if-returns t c = chosen _ _ _ _ _ _ c.condition_size-c.ensures _ c.further-j.ensures _ c.past.ensures _ _ c.put_part-x.ensures _ _ c.put_else-e.ensures _ c.behind-yes.ensures _ _ c.put_asking.ensures

pub put_one-returns-in-Last : goal.put_one-returns-in-Last
put_one-returns-in-Last t c = last_turn _ _ _ _ _ (rw c.in-Last.is at c.in_ok-o.ensures.found) c.in_ok-o.ensures.inside _ _ c.put_last.ensures

pub put_one-returns-in-Goto : goal.put_one-returns-in-Goto
put_one-returns-in-Goto t c = goto_turn _ _ _ _ _ (rw c.in-Goto.is at c.in_ok-o.ensures.found) c.in_ok-o.ensures.inside _ _ c.put_order.ensures

pub put_one-returns-in-If : goal.put_one-returns-in-If
put_one-returns-in-If t c = if_turn _ _ _ _ (rw c.in-If.is at c.in_ok-o.ensures.found) c.in_ok-o.ensures.inside _ _ c.put_if.ensures

pub put_part-returns : goal.put_part-returns
put_part-returns t c = loop_ends _ _ _ _ _ _ c.loop-r.invariant _ _ c.in_default.is c.put_one.ensures

pub put_part-loop-r-preserved : goal.put_part-loop-r-preserved
put_part-loop-r-preserved t c = loop_more _ _ _ _ _ _ c.loop-r.invariant _ _ _ c.in-Some.is c.put_one.ensures

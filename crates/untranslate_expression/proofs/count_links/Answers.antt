use Rattle.untranslate_expression.proofs.Counting.{count_more, count_done}
use Rattle.untranslate_expression.proofs.count_links.Goals as goal

pub returns-then-k-j : goal.returns-then-k-j
returns-then-k-j c = count_done _ _ _ _ _ _ c.loop-j.invariant _ c.past_link-k.ensures c.if-k-j.true

pub loop-j-preserved : goal.loop-j-preserved
loop-j-preserved c = count_more _ _ _ _ _ _ c.loop-j.invariant _ c.past_link-k.ensures c.if-k-j.false

use Rattle.untranslate_condition.proofs.Conditions.{tried_one, tried_run}
use Rattle.untranslate_condition.proofs.+read_condition.Goals as goal

pub returns-then-orders-q : goal.returns-then-orders-q
returns-then-orders-q t c = tried_one _ _ _ _ _ _ _ c.first_member-q.ensures c.if-orders-q.true _ _ c.read_comparison.ensures

pub returns : goal.returns
returns t c = tried_run _ _ _ _ _ _ _ c.first_member-q.ensures c.if-orders-q.false _ c.goes_on-on.ensures _ c.word_of.ensures _ _ c.put_field-m.ensures _ _ c.read_condition-k.ensures _ _ c.read_condition.ensures

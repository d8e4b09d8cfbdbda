use Rattle.translate_size.proofs.Conditions.{single_counted, run_counted}
use Rattle.translate_size.proofs.condition_size.Goals as goal

pub returns-then-c-le1 : goal.returns-then-c-le1
returns-then-c-le1 c = single_counted _ _ _ c.trying_size-c.ensures c.if-c-le1.true

pub returns : goal.returns
returns c = run_counted _ _ _ c.trying_size-c.ensures c.if-c-le1.false _ c.saturating_add.ensures

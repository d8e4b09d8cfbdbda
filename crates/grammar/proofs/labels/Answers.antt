use mathlib.Core.Path.{sym, ◌∙◌}
use Rattle.grammar.proofs.Statements.{passed_none, passed_more, passed_all}
use Rattle.grammar.proofs.labels.Goals as goal

pub loop-c-init : goal.loop-c-init
loop-c-init c = passed_none c.args.tokens.now

pub loop-c-preserved : goal.loop-c-preserved
loop-c-preserved c = passed_more c.args.tokens.now _ (c.label_at.ensures.inside c.loop-c-test.true) (sym c.label_at.ensures.found ∙ c.loop-c-test.true) c.loop-c.invariant

pub returns : goal.returns
returns c = passed_all c.args.tokens.now _ (sym c.label_at.ensures.found ∙ c.loop-c-test.false) c.loop-c.invariant

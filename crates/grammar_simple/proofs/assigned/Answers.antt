use Rattle.grammar_simple.proofs.Openings.{set_read}
use Rattle.grammar_simple.proofs.assigned.Goals as goal

pub returns-clause-read : goal.returns-clause-read
returns-clause-read c = set_read c.args.tokens.now _ _ _ _ _ c.put.ensures c.expression.ensures.read

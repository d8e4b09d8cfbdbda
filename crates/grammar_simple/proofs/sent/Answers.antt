use Rattle.grammar_simple.proofs.Openings.{send_read}
use Rattle.grammar_simple.proofs.sent.Goals as goal

pub returns-clause-read : goal.returns-clause-read
returns-clause-read c = send_read c.args.tokens.now _ _ _ _ c.put.ensures c.bracketed.ensures.read

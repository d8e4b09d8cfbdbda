use Rattle.grammar_expression.proofs.Following.{then_found, then_missing}
use Rattle.grammar_instruction.proofs.lone.Goals as goal

pub returns-in_err-first-clause-read : goal.returns-in_err-first-clause-read
returns-in_err-first-clause-read c = rw c.from_residual.ensures (then_missing _ _ c.in_err-first.ensures.read)

pub returns-clause-read : goal.returns-clause-read
returns-clause-read c = then_found _ _ _ _ _ c.in_ok-first.ensures.read c.otherwise.ensures.read

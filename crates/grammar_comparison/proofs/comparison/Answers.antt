use Rattle.grammar_comparison.proofs.Comparisons.{comparison_missing, comparison_read}
use Rattle.grammar_comparison.proofs.comparison.Goals as goal

pub returns-in_err-first-clause-read : goal.returns-in_err-first-clause-read
returns-in_err-first-clause-read c =
    rw c.from_residual.ensures (comparison_missing _ c.args.tokens.now _ c.in_err-first.ensures.read)

pub returns-clause-read : goal.returns-clause-read
returns-clause-read c = comparison_read _ c.args.tokens.now _ _ _ _ c.in_ok-first.ensures.read c.expression.ensures.read

use mathlib.Core.Path.{sym, ◌∙◌}
use Rattle.sheet.specs.Fields.{expression_fields}
use Rattle.grammar_look.proofs.Places.{ahead_behind}
use Rattle.grammar_expression.proofs.Closing.{next_none, closed, unclosed}
use Rattle.grammar_expression.proofs.bracketed.Goals as goal

pub returns-in_err-inner-clause-read : goal.returns-in_err-inner-clause-read
returns-in_err-inner-clause-read c =
    rw c.from_residual.ensures (next_none _ expression_fields expression_fields _ _ c.in_err-inner.ensures.read)

pub returns-then-mark_at-clause-read : goal.returns-then-mark_at-clause-read
returns-then-mark_at-clause-read c =
    rw (ahead_behind c.args.tokens.now _ (c.mark_at.ensures.inside c.if-mark_at.true))
    (closed _ _ _ _ c.in_ok-inner.ensures.read (sym c.mark_at.ensures.found ∙ c.if-mark_at.true))

pub returns-clause-read : goal.returns-clause-read
returns-clause-read c =
    unclosed _ _ _ _ c.in_ok-inner.ensures.read (sym c.mark_at.ensures.found ∙ c.if-mark_at.false)

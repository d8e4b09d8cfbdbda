use mathlib.Core.Path.{sym, ◌∙◌}
use Rattle.grammar_comparison.proofs.Relations.{bracket_opens, no_bracket}
use Rattle.grammar_comparison.proofs.opens_condition.Goals as goal

pub returns-then-mark_at : goal.returns-then-mark_at
returns-then-mark_at c =
    bracket_opens c.args.tokens.now _ _ (c.mark_at.ensures.inside c.if-mark_at.true) (sym c.mark_at.ensures.found ∙ c.if-mark_at.true) c.holds_relation.ensures

pub returns-else-mark_at : goal.returns-else-mark_at
returns-else-mark_at c = c.if-mark_at.false ∙ no_bracket c.args.tokens.now _ (sym c.mark_at.ensures.found ∙ c.if-mark_at.false)

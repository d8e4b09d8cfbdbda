use mathlib.Core.Path.{sym, ◌∙◌}
use Rattle.grammar_comparison.proofs.Relations.{sees_open, sees_closing, sees_other}
use Rattle.grammar_comparison.proofs.depth_behind.Goals as goal

pub returns-then-mark_at-clause-told : goal.returns-then-mark_at-clause-told
returns-then-mark_at-clause-told c =
    λ e. sees_open c.args.tokens.now _ _ c.requires.0 (sym c.mark_at.ensures.found ∙ c.if-mark_at.true)

pub returns-then-mark_at-2-clause-told : goal.returns-then-mark_at-2-clause-told
returns-then-mark_at-2-clause-told c =
    λ e. sees_closing c.args.tokens.now _ _ _ c.requires.0 (sym c.mark_at.ensures.found ∙ c.if-mark_at.false)
    (sym c.mark_at-2.ensures.found ∙ c.if-mark_at-2.true) c.checked_sub.ensures

pub returns-clause-told : goal.returns-clause-told
returns-clause-told c =
    λ e. sees_other c.args.tokens.now _ _ c.requires.0 e (sym c.mark_at.ensures.found ∙ c.if-mark_at.false)
    (sym c.mark_at-2.ensures.found ∙ c.if-mark_at-2.false)

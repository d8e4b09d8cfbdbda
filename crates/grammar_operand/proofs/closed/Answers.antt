use mathlib.Core.Path.{sym, ◌∙◌}
use Rattle.grammar_operand.proofs.Nesting.{link_closed, link_unclosed}
use Rattle.grammar_operand.proofs.closed.Goals as goal

pub returns-then-mark_at-clause-read : goal.returns-then-mark_at-clause-read
returns-then-mark_at-clause-read c =
    λ fs all e r. link_closed _ _ _ _ _ _ (c.mark_at.ensures.inside c.if-mark_at.true) e c.requires.0
    (sym c.mark_at.ensures.found ∙ c.if-mark_at.true) c.places_of.ensures r

pub returns-clause-read : goal.returns-clause-read
returns-clause-read c =
    λ fs all e r. link_unclosed _ _ _ _ _ c.requires.2 e c.requires.0 (sym c.mark_at.ensures.found ∙ c.if-mark_at.false) r

use mathlib.Core.Path.{refl, sym, ◌∙◌}
use Rattle.grammar_member.proofs.Levels.{closed, unclosed}
use Rattle.grammar_member.proofs.closed.Goals as goal

pub returns-then-mark_at-clause-read : goal.returns-then-mark_at-clause-read
returns-then-mark_at-clause-read c =
    let p = c.requires in
    rw c.outward.ensures
    (λ fs base all e r. closed _ _ _ _ _ _ _ (c.mark_at.ensures.inside c.if-mark_at.true) e p.0
    (sym c.mark_at.ensures.found ∙ c.if-mark_at.true) refl r)

pub returns-clause-read : goal.returns-clause-read
returns-clause-read c =
    let p = c.requires in
    λ fs base all e r. unclosed _ _ _ _ _ _ p.2 e p.0 (sym c.mark_at.ensures.found ∙ c.if-mark_at.false) r

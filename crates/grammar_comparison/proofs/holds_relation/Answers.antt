use mathlib.Core.Path.{sym, ap, ◌∙◌}
use Rattle.std.specs.Prelude.{is_some}
use Rattle.grammar_comparison.proofs.Relations.{sees_relation, sees_nothing}
use Rattle.grammar_comparison.proofs.holds_relation.Goals as goal

pub returns-then-is_some : goal.returns-then-is_some
returns-then-is_some c =
    sees_relation c.args.tokens.now _ _ (ap is_some (sym c.relation_at.ensures.found) ∙ sym c.is_some.ensures ∙ c.if-is_some.true)
    ∙ c.loop-i.invariant.0

pub returns : goal.returns
returns c = sees_nothing c.args.tokens.now _ _ c.loop-i-test.false ∙ c.loop-i.invariant.0

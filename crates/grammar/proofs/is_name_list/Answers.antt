use mathlib.Core.Path.{sym, ◌∙◌}
use Rattle.grammar.proofs.Statements.{names_none, names_one, names_more, names_parted}
use Rattle.grammar.proofs.is_name_list.Goals as goal

pub returns-then-tokens-i-eq1 : goal.returns-then-tokens-i-eq1
returns-then-tokens-i-eq1 c =
    names_one c.args.tokens.now _ (c.name_at.ensures.inside c.loop-at-test.true) (sym c.name_at.ensures.found ∙ c.loop-at-test.true) c.if-tokens-i-eq1.true ∙ c.loop-at.invariant

pub loop-at-preserved : goal.loop-at-preserved
loop-at-preserved c =
    sym (names_more c.args.tokens.now _ (c.name_at.ensures.inside c.loop-at-test.true) c.if-tokens-i-eq1.false (sym c.name_at.ensures.found ∙ c.loop-at-test.true)
    (sym c.mark_at.ensures.found ∙ c.if-not-mark_at.false))
    ∙ c.loop-at.invariant

pub returns-then-not-mark_at : goal.returns-then-not-mark_at
returns-then-not-mark_at c =
    names_parted c.args.tokens.now _ (c.name_at.ensures.inside c.loop-at-test.true) c.if-tokens-i-eq1.false (sym c.name_at.ensures.found ∙ c.loop-at-test.true)
    (sym c.mark_at.ensures.found ∙ c.if-not-mark_at.true)
    ∙ c.loop-at.invariant

pub returns : goal.returns
returns c = names_none c.args.tokens.now _ (sym c.name_at.ensures.found ∙ c.loop-at-test.false) ∙ c.loop-at.invariant

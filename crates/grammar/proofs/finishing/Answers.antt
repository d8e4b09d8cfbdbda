use mathlib.Core.Path.{sym, ◌∙◌}
use Rattle.grammar.proofs.Statements.{finish_goes_on, finish_else_more, finish_else_other, finish_alone, finish_more}
use Rattle.grammar.proofs.finishing.Goals as goal

pub returns-then-tokens-eq3-clause-read : goal.returns-then-tokens-eq3-clause-read
returns-then-tokens-eq3-clause-read c =
    λ ts fs. finish_goes_on c.args.tokens.now (sym c.mark_at.ensures.found ∙ c.if-mark_at.true) (c.mark_at.ensures.inside c.if-mark_at.true)
    (sym c.mark_at-then-mark_at.ensures.found ∙ c.if-mark_at-2.true) (c.mark_at-then-mark_at.ensures.inside c.if-mark_at-2.true) c.if-tokens-eq3.true

pub returns-else-tokens-eq3-clause-read : goal.returns-else-tokens-eq3-clause-read
returns-else-tokens-eq3-clause-read c =
    λ ts fs. finish_else_more c.args.tokens.now (sym c.mark_at.ensures.found ∙ c.if-mark_at.true) (c.mark_at.ensures.inside c.if-mark_at.true)
    (sym c.mark_at-then-mark_at.ensures.found ∙ c.if-mark_at-2.true) (c.mark_at-then-mark_at.ensures.inside c.if-mark_at-2.true) c.if-tokens-eq3.false

pub returns-else-mark_at-2-clause-read : goal.returns-else-mark_at-2-clause-read
returns-else-mark_at-2-clause-read c =
    λ ts fs. finish_else_other c.args.tokens.now (sym c.mark_at.ensures.found ∙ c.if-mark_at.true) (c.mark_at.ensures.inside c.if-mark_at.true) (sym c.mark_at-then-mark_at.ensures.found ∙ c.if-mark_at-2.false)

pub returns-then-tokens-eq1-clause-read : goal.returns-then-tokens-eq1-clause-read
returns-then-tokens-eq1-clause-read c =
    λ ts fs. finish_alone c.args.tokens.now (sym c.mark_at.ensures.found ∙ c.if-mark_at.false) c.if-tokens-eq1.true

pub returns-clause-read : goal.returns-clause-read
returns-clause-read c =
    λ ts fs. finish_more c.args.tokens.now (sym c.mark_at.ensures.found ∙ c.if-mark_at.false) c.requires c.if-tokens-eq1.false

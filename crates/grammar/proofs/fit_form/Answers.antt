use mathlib.Core.Path.{sym, ap, ◌∙◌}
use Rattle.grammar.specs.Answers.{fields_of}
use Rattle.grammar.proofs.Statements.{begin_alone, begin_more, end_alone, end_more, integer_names, integer_more, finish_form, other_form}
use Rattle.grammar.proofs.fit_form.Goals as goal

pub returns-then-tokens-eq1-clause-read : goal.returns-then-tokens-eq1-clause-read
returns-then-tokens-eq1-clause-read c =
    begin_alone c.args.tokens.now (sym c.mark_at.ensures.found ∙ c.if-mark_at.true) c.if-tokens-eq1.true

pub returns-then-mark_at-clause-read : goal.returns-then-mark_at-clause-read
returns-then-mark_at-clause-read c =
    begin_more c.args.tokens.now (sym c.mark_at.ensures.found ∙ c.if-mark_at.true) c.if-tokens-eq1.false

pub returns-then-tokens-eq1-2-clause-read : goal.returns-then-tokens-eq1-2-clause-read
returns-then-tokens-eq1-2-clause-read c =
    end_alone c.args.tokens.now (sym c.mark_at.ensures.found ∙ c.if-mark_at.false) (sym c.mark_at-2.ensures.found ∙ c.if-mark_at-2.true) c.if-tokens-eq1-2.true

pub returns-then-mark_at-2-clause-read : goal.returns-then-mark_at-2-clause-read
returns-then-mark_at-2-clause-read c =
    end_more c.args.tokens.now (sym c.mark_at.ensures.found ∙ c.if-mark_at.false) (sym c.mark_at-2.ensures.found ∙ c.if-mark_at-2.true) c.if-tokens-eq1-2.false

pub returns-then-is_name_list-clause-read : goal.returns-then-is_name_list-clause-read
returns-then-is_name_list-clause-read c =
    integer_names c.args.tokens.now (sym c.mark_at.ensures.found ∙ c.if-mark_at.false) (sym c.mark_at-2.ensures.found ∙ c.if-mark_at-2.false) (sym c.mark_at-3.ensures.found ∙ c.if-mark_at-3.true)
    (c.mark_at-3.ensures.inside c.if-mark_at-3.true) (sym c.if-is_name_list.true ∙ c.is_name_list.ensures)

pub returns-then-mark_at-3-clause-read : goal.returns-then-mark_at-3-clause-read
returns-then-mark_at-3-clause-read c =
    integer_more c.args.tokens.now (sym c.mark_at.ensures.found ∙ c.if-mark_at.false) (sym c.mark_at-2.ensures.found ∙ c.if-mark_at-2.false) (sym c.mark_at-3.ensures.found ∙ c.if-mark_at-3.true)
    (c.mark_at-3.ensures.inside c.if-mark_at-3.true) (sym c.if-is_name_list.false ∙ c.is_name_list.ensures)

pub returns-then-mark_at-4-clause-read : goal.returns-then-mark_at-4-clause-read
returns-then-mark_at-4-clause-read c =
    c.finishing.ensures.read _ _
    ∙ ap fields_of (finish_form c.args.tokens.now (sym c.mark_at.ensures.found ∙ c.if-mark_at.false) (sym c.mark_at-2.ensures.found ∙ c.if-mark_at-2.false) (sym c.mark_at-3.ensures.found ∙ c.if-mark_at-3.false)
    (sym c.mark_at-4.ensures.found ∙ c.if-mark_at-4.true) (c.mark_at-4.ensures.inside c.if-mark_at-4.true))

pub returns-clause-read : goal.returns-clause-read
returns-clause-read c =
    c.labelled.ensures.read
    ∙ ap fields_of (other_form c.args.tokens.now (sym c.mark_at.ensures.found ∙ c.if-mark_at.false) (sym c.mark_at-2.ensures.found ∙ c.if-mark_at-2.false) (sym c.mark_at-3.ensures.found ∙ c.if-mark_at-3.false)
    (sym c.mark_at-4.ensures.found ∙ c.if-mark_at-4.false))

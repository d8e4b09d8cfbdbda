use mathlib.Core.Path.{sym, ◌∙◌}
use lib.ListN.{length}
use Rattle.grammar.proofs.Statements.{fits, fit_told, unfit_told}
use Rattle.grammar.proofs.form_of.Goals as goal

pub fit_form-requires : goal.fit_form-requires
fit_form-requires c =
    let a = c.args in
    fits a.tokens.now.count (length a.fields.now) (sym c.is_fit.ensures ∙ c.if-is_fit.true)

pub returns-then-is_fit-clause-read : goal.returns-then-is_fit-clause-read
returns-then-is_fit-clause-read c =
    let a = c.args in
    c.fit_form.ensures.read ∙ fit_told a.tokens.now.count a.fields.now _ (sym c.is_fit.ensures ∙ c.if-is_fit.true)

pub returns-clause-read : goal.returns-clause-read
returns-clause-read c =
    let a = c.args in
    unfit_told a.tokens.now.count a.fields.now _ (sym c.is_fit.ensures ∙ c.if-is_fit.false)

use mathlib.Core.Path.{sym, ap, ◌∙◌}
use Rattle.source.specs.Tokens.{mark_colon}
use Rattle.source.specs.Grammar.{opens}
use Rattle.grammar_look.proofs.Places.{ahead_behind, number_then, no_number}
use Rattle.grammar_look.proofs.Tokens.label_at.Goals as goal

pub returns-then-number_at-clause-found : goal.returns-then-number_at-clause-found
returns-then-number_at-clause-found c =
    let e = c.if-number_at.true in
    c.mark_at.ensures.found
    ∙ ap (opens mark_colon) (ahead_behind c.args.self.now _ (c.number_at.ensures.inside e))
    ∙ sym (number_then _ (sym c.number_at.ensures.found ∙ e))

pub returns-else-number_at-clause-found : goal.returns-else-number_at-clause-found
returns-else-number_at-clause-found c =
    let e = c.if-number_at.false in e ∙ sym (no_number _ (sym c.number_at.ensures.found ∙ e))

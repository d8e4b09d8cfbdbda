use mathlib.Core.Path.{sym, ap, ◌∙◌}
use Rattle.grammar_look.specs.Internal.{first}
use Rattle.grammar_look.proofs.Places.{ahead_behind, opening_two, opening_none}
use Rattle.grammar_look.proofs.Tokens.opening_at.Goals as goal

pub returns-in_err-u-clause-found : goal.returns-in_err-u-clause-found
returns-in_err-u-clause-found c =
    let h = c.in_ok-t.ensures.inside in
    c.from_residual-in_err-u.ensures
    ∙ sym (opening_none _ (sym (ap first (ahead_behind c.args.self.now _ h)) ∙ sym c.token-2.ensures.found ∙ c.in_err-u.was))

pub returns-clause-found : goal.returns-clause-found
returns-clause-found c =
    let h = c.in_ok-t.ensures.inside in
    c.opening_of.ensures
    ∙ sym
    (opening_two _ _ _ (sym c.token.ensures.found ∙ c.in_ok-t.was)
    (sym (ap first (ahead_behind c.args.self.now _ h)) ∙ sym c.token-2.ensures.found ∙ c.in_ok-u.was))

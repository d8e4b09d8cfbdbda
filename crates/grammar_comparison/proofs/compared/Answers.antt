use mathlib.Core.Path.{sym, ◌∙◌}
use Rattle.sheet_field.proofs.Stored.{fields_length}
use Rattle.grammar_comparison.proofs.Comparisons.{compared_missing, compared_unrelated, compared_found}
use Rattle.grammar_comparison.proofs.compared.Goals as goal

pub returns-in_err-first-clause-read : goal.returns-in_err-first-clause-read
returns-in_err-first-clause-read c =
    rw c.from_residual.ensures (compared_missing _ c.args.tokens.now _ c.in_err-first.ensures.read)

pub returns-in_err-s-clause-read : goal.returns-in_err-s-clause-read
returns-in_err-s-clause-read c =
    rw c.from_residual-in_err-s.ensures
    (compared_unrelated _ c.args.tokens.now _ _ _ c.in_ok-first.ensures.read (sym c.relation_at.ensures.found ∙ c.in_err-s.was))

pub returns-clause-read : goal.returns-clause-read
returns-clause-read c =
    compared_found _ c.args.tokens.now _ _ _ _ _ _ c.in_ok-first.ensures.read (sym c.relation_at.ensures.found ∙ c.in_ok-s.was)
    c.in_ok-s.ensures.inside (fields_length 0 _ _) c.insert.ensures

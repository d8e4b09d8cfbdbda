use mathlib.Core.Path.{sym, ap, ◌∙◌}
use Rattle.std.specs.Prelude.{Some}
use Rattle.grammar_simple.proofs.Openings.{simple_set, simple_send, simple_goto, simple_none}
use Rattle.grammar_simple.proofs.simple.Goals as goal

pub returns-in_err-w-clause-read : goal.returns-in_err-w-clause-read
returns-in_err-w-clause-read c =
    rw c.from_residual.ensures (simple_none _ _ (sym c.opening_at.ensures.found ∙ c.in_err-w.was))

pub returns-in-Set-clause-read : goal.returns-in-Set-clause-read
returns-in-Set-clause-read c =
    simple_set c.args.tokens.now _ _ _ _ (sym c.opening_at.ensures.found ∙ c.in_ok-w.was ∙ ap Some c.in-Set.is)
    c.in_ok-w.ensures.inside c.assigned.ensures.read

pub returns-in-Send-clause-read : goal.returns-in-Send-clause-read
returns-in-Send-clause-read c =
    simple_send c.args.tokens.now _ _ _ (sym c.opening_at.ensures.found ∙ c.in_ok-w.was ∙ ap Some c.in-Send.is)
    c.in_ok-w.ensures.inside c.sent.ensures.read

pub returns-in-Goto-clause-read : goal.returns-in-Goto-clause-read
returns-in-Goto-clause-read c =
    simple_goto c.args.tokens.now _ _ _ _ (sym c.opening_at.ensures.found ∙ c.in_ok-w.was ∙ ap Some c.in-Goto.is)
    c.in_ok-w.ensures.inside c.put.ensures

use mathlib.Core.Path.{sym, ap, ◌∙◌}
use Rattle.std.proofs.Common.{◌≡◌, Ok, Err, rules, MatchResult}
use Rattle.tokens.specs.declared.Failure.TheVariants.{Refused}
use Rattle.tokens.specs.Answers.{told}
use Rattle.tokens.proofs.Scanning.{fit_told, unfit_told, scan_told}
use Rattle.tokens.proofs.tokens.Goals as goal

pub returns-then-is_fit-clause-read : goal.returns-then-is_fit-clause-read
returns-then-is_fit-clause-read c =
    let a = c.args in
    let whole = rw c.part.ensures at c.scan.ensures in
    let handed : MatchResult c.scan.result (λ n. c.map_err.result ≡ Ok n) (λ k. c.map_err.result ≡ Err (Refused k)) = search rules in
    scan_told _ _ _ _ _ handed
    ∙ ap told whole.same
    ∙ fit_told a.s a.kinds.now a.values.now (sym c.is_fit.ensures ∙ c.if-is_fit.true)

pub returns-else-is_fit-clause-read : goal.returns-else-is_fit-clause-read
returns-else-is_fit-clause-read c =
    let a = c.args in
    unfit_told a.s a.kinds.now a.values.now (sym c.is_fit.ensures ∙ c.if-is_fit.false)

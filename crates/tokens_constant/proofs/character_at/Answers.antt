use native.Mathlib.Omega.{arith}
use mathlib.Core.Path.{sym, ◌∙◌}
use Rattle.tokens_constant.proofs.Constants.{no_character, plain_character, double_character, close_character}
use Rattle.tokens_constant.proofs.character_at.Goals as goal

pub returns-in_err-c : goal.returns-in_err-c
returns-in_err-c c = rw c.from_residual.ensures (no_character _ _ c.in_err-c.ensures.lookup.3)

pub returns-then-c-ne39 : goal.returns-then-c-ne39
returns-then-c-ne39 c =
    let found = c.in_ok-c.ensures.lookup.3 in
    rw (found.1 0)
    (plain_character _ _ found.0 (λ e. c.if-c-ne39.true (found.1 0 ∙ e)) (omega (arith, c.type_inv.cells c.args.at)))

pub returns-then-at-eq39 : goal.returns-then-at-eq39
returns-then-at-eq39 c =
    let found = c.in_ok-c.ensures.lookup.3 in
    double_character _ _ found.0 (sym (found.1 0) ∙ c.if-c-ne39.false) (sym c.at.ensures ∙ c.if-at-eq39.true)

pub returns-else-at-eq39 : goal.returns-else-at-eq39
returns-else-at-eq39 c =
    let found = c.in_ok-c.ensures.lookup.3 in
    close_character _ _ found.0 (sym (found.1 0) ∙ c.if-c-ne39.false) (λ e. c.if-at-eq39.false (c.at.ensures ∙ e))

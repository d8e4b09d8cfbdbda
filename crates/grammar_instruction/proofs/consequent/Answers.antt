use mathlib.Core.Path.{sym, ◌∙◌}
use Rattle.std.specs.Prelude.{Some, None}
use Rattle.grammar_instruction.proofs.Instructions.{start_found, no_start_law}
use Rattle.grammar_instruction.proofs.consequent.Goals as goal

pub returns-then-mark_at-clause-read : goal.returns-then-mark_at-clause-read
returns-then-mark_at-clause-read c =
    start_found c.args.tokens.now _ _ (sym c.mark_at.ensures.found ∙ c.if-mark_at.true)
    (c.mark_at.ensures.inside c.if-mark_at.true)

pub returns-in_err-lone-clause-read : goal.returns-in_err-lone-clause-read
returns-in_err-lone-clause-read c =
    rw c.from_residual.ensures
    (no_start_law c.args.tokens.now _ _ None c.args.fields.now (sym c.mark_at.ensures.found ∙ c.if-mark_at.false) c.in_err-lone.ensures.read)

pub returns-clause-read : goal.returns-clause-read
returns-clause-read c =
    no_start_law c.args.tokens.now _ _ (Some c.in_ok-lone.field-0) _ (sym c.mark_at.ensures.found ∙ c.if-mark_at.false) c.in_ok-lone.ensures.read

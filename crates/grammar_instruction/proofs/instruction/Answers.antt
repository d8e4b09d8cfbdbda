use mathlib.Core.Path.{sym, ◌∙◌}
use Rattle.std.specs.Prelude.{Some, None}
use Rattle.grammar_instruction.proofs.Instructions.{if_read, simple_read_law}
use Rattle.grammar_instruction.proofs.instruction.Goals as goal

pub returns-then-mark_at-clause-read : goal.returns-then-mark_at-clause-read
returns-then-mark_at-clause-read c =
    if_read c.args.tokens.now _ _ _ (sym c.mark_at.ensures.found ∙ c.if-mark_at.true)
    (c.mark_at.ensures.inside c.if-mark_at.true) c.conditional.ensures.read

pub returns-in_err-simple-clause-read : goal.returns-in_err-simple-clause-read
returns-in_err-simple-clause-read c =
    rw c.from_residual.ensures
    (simple_read_law c.args.tokens.now _ _ None c.args.fields.now (sym c.mark_at.ensures.found ∙ c.if-mark_at.false) c.in_err-simple.ensures.read)

pub returns-clause-read : goal.returns-clause-read
returns-clause-read c =
    simple_read_law c.args.tokens.now _ _ (Some c.in_ok-simple.field-0) _ (sym c.mark_at.ensures.found ∙ c.if-mark_at.false) c.in_ok-simple.ensures.read

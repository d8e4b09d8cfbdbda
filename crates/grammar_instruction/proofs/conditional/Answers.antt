use Rattle.sheet_field.specs.Memory.{fields_from}
use mathlib.Core.Path.{sym, ◌∙◌}
use Rattle.grammar_instruction.proofs.Instructions.{condition_missing, then_read, no_then}
use Rattle.grammar_instruction.proofs.conditional.Goals as goal

pub returns-in_err-asked-clause-read : goal.returns-in_err-asked-clause-read
returns-in_err-asked-clause-read c =
    rw c.from_residual.ensures
    (condition_missing c.args.tokens.now _ (fields_from 0 c.args.out c.args.fields.now) _ c.put.ensures c.in_err-asked.ensures.read)

pub returns-then-mark_at-clause-read : goal.returns-then-mark_at-clause-read
returns-then-mark_at-clause-read c =
    then_read c.args.tokens.now _ (fields_from 0 c.args.out c.args.fields.now) _ c.put.ensures _ _ c.in_ok-asked.ensures.read _ _
    (sym c.mark_at.ensures.found ∙ c.if-mark_at.true) (c.mark_at.ensures.inside c.if-mark_at.true) c.put-then-mark_at.ensures c.consequent.ensures.read

pub returns-clause-read : goal.returns-clause-read
returns-clause-read c =
    no_then c.args.tokens.now _ (fields_from 0 c.args.out c.args.fields.now) _ c.put.ensures _ _ c.in_ok-asked.ensures.read
    (sym c.mark_at.ensures.found ∙ c.if-mark_at.false)

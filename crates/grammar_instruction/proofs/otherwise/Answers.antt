use Rattle.sheet_field.specs.Memory.{fields_from}
use mathlib.Core.Path.{sym, ◌∙◌}
use Rattle.grammar_instruction.proofs.Instructions.{else_found, no_else}
use Rattle.grammar_instruction.proofs.otherwise.Goals as goal

pub returns-then-mark_at-clause-read : goal.returns-then-mark_at-clause-read
returns-then-mark_at-clause-read c =
    else_found c.args.tokens.now _ (fields_from 0 c.args.out c.args.fields.now) _ (sym c.mark_at.ensures.found ∙ c.if-mark_at.true)
    (c.mark_at.ensures.inside c.if-mark_at.true) c.alternative.ensures.read

pub returns-clause-read : goal.returns-clause-read
returns-clause-read c =
    no_else c.args.tokens.now _ (fields_from 0 c.args.out c.args.fields.now) _ (sym c.mark_at.ensures.found ∙ c.if-mark_at.false)
    c.put.ensures

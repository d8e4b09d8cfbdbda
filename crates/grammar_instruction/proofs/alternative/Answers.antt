use Rattle.sheet_field.specs.Memory.{fields_from}
use Rattle.grammar_instruction.proofs.Instructions.{alternative_missing, alternative_found}
use Rattle.grammar_instruction.proofs.alternative.Goals as goal

pub returns-in_err-second-clause-read : goal.returns-in_err-second-clause-read
returns-in_err-second-clause-read c =
    rw c.from_residual.ensures
    (alternative_missing (fields_from 0 c.args.out c.args.fields.now) _ _ c.put.ensures c.in_err-second.ensures.read)

pub returns-clause-read : goal.returns-clause-read
returns-clause-read c =
    alternative_found (fields_from 0 c.args.out c.args.fields.now) _ _ c.put.ensures _ _ _
    c.in_ok-second.ensures.read c.put-2.ensures

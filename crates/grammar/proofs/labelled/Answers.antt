use mathlib.Core.List.{[]}
use Rattle.sheet_field.specs.Memory.{fields_from}
use Rattle.grammar.proofs.Statements.{labels_alone, no_instruction_law, whole_instruction, opening_instruction, more_behind}
use Rattle.grammar.proofs.labelled.Goals as goal

pub returns-then-c-tokens-clause-read : goal.returns-then-c-tokens-clause-read
returns-then-c-tokens-clause-read c =
    labels_alone c.args.tokens.now _ c.labels-c.ensures c.if-c-tokens.true

pub returns-in-Some-Whole-clause-read : goal.returns-in-Some-Whole-clause-read
unfolding fields_from
returns-in-Some-Whole-clause-read c =
    whole_instruction c.args.tokens.now _ c.labels-c.ensures _ c.if-c-tokens.false c.if-s-tokens.true _ (rw c.in-Some-Whole.field-0-is at c.in-Some-Whole.ensures.read)

pub returns-in-Some-Opening-clause-read : goal.returns-in-Some-Opening-clause-read
unfolding fields_from
returns-in-Some-Opening-clause-read c =
    opening_instruction c.args.tokens.now _ c.labels-c.ensures _ c.if-c-tokens.false c.if-s-tokens-2.true _ (rw c.in-Some-Opening.field-0-is at c.in-Some-Opening.ensures.read)

pub returns-in_default-clause-read : goal.returns-in_default-clause-read
unfolding fields_from
returns-in_default-clause-read c =
    let moved = rw c.in-Some-Whole.field-0-is at c.in-Some-Whole.ensures.moved in
    more_behind c.args.tokens.now _ c.labels-c.ensures _ c.if-c-tokens.false _ c.if-s-tokens.false moved.1 (rw c.in-Some-Whole.field-0-is at c.in-Some-Whole.ensures.read)

pub returns-in_default-2-clause-read : goal.returns-in_default-2-clause-read
unfolding fields_from
returns-in_default-2-clause-read c =
    let moved = rw c.in-Some-Opening.field-0-is at c.in-Some-Opening.ensures.moved in
    more_behind c.args.tokens.now _ c.labels-c.ensures _ c.if-c-tokens.false _ c.if-s-tokens-2.false moved.1 (rw c.in-Some-Opening.field-0-is at c.in-Some-Opening.ensures.read)

pub returns-in_default-3-clause-read : goal.returns-in_default-3-clause-read
unfolding fields_from
returns-in_default-3-clause-read c =
    no_instruction_law c.args.tokens.now _ c.labels-c.ensures [] c.if-c-tokens.false (rw c.in_default.is at c.instruction.ensures.read)

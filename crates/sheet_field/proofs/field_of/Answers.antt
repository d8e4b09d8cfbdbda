use mathlib.Core.Path.{◌∙◌}
use Rattle.sheet_field.proofs.Numbering.{bare_again, binary_again, compare_again, numbered_again, no_field}
use Rattle.sheet_field.proofs.field_of.Goals as goal

pub returns-then-k-lt7 : goal.returns-then-k-lt7
returns-then-k-lt7 c = c.bare_field.ensures ∙ bare_again _ _ c.if-k-lt7.true

pub returns-then-k-lt17 : goal.returns-then-k-lt17
returns-then-k-lt17 c = rw c.operator.ensures (binary_again _ _ c.if-k-lt7.false c.if-k-lt17.true)

pub returns-then-k-lt23 : goal.returns-then-k-lt23
returns-then-k-lt23 c = rw c.relation.ensures (compare_again _ _ c.if-k-lt17.false c.if-k-lt23.true)

pub returns-then-k-lt29 : goal.returns-then-k-lt29
returns-then-k-lt29 c = c.numbered_field.ensures ∙ numbered_again _ _ c.if-k-lt23.false c.if-k-lt29.true

pub returns : goal.returns
returns c = no_field _ _ c.if-k-lt29.false

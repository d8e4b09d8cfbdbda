use Rattle.sheet_field.proofs.Numbering.{no_field}
use Rattle.sheet_field.proofs.field_in.Goals as goal

pub returns-then-k-ge29 : goal.returns-then-k-ge29
returns-then-k-ge29 c = no_field _ _ c.if-k-ge29.true

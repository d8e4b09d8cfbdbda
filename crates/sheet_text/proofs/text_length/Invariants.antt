use Prim.Native.Nat.{◌+◌, ◌≤◌}
use mathlib.Core.Path.{◌≡◌}
use lib.ListN.{length}
use Rattle.sheet_field.specs.Memory.{fields_at}
use Rattle.sheet_text.specs.TextOfFields.{fields_text, text_of_fields}
use Rattle.sheet_text.proofs.Writing.{lines_at}
use Rattle.sheet_text.proofs.text_length.Given as goal

abbrev pub invariant-loop-i : goal.invariant-loop-i
invariant-loop-i l = (l.room + length (fields_text (lines_at l.i l.fields)) ≡ l.left + 1 + length (text_of_fields l.v l.instructions (fields_at 0 l.fields))) × (l.left ≤ l.room)

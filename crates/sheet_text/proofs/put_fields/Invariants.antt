use mathlib.Core.Path.{◌≡◌}
use lib.ListN.{length}
use Rattle.text.specs.Internal.{placed, put_all}
use Rattle.sheet_text.specs.TextOfFields.{fields_text}
use Rattle.sheet_text.proofs.Writing.{lines_at}
use Rattle.sheet_text.proofs.put_fields.Given as goal

abbrev pub invariant-loop-i : goal.invariant-loop-i
invariant-loop-i l = (put_all (fields_text (lines_at l.i l.fields)) (placed l.j l.buffer) ≡ put_all (fields_text (lines_at 0 l.fields)) (placed l.at l.initial.buffer)) × (length l.buffer ≡ length l.initial.buffer)

use mathlib.Core.Path.{refl}
use Rattle.call_read_back.proofs.Objects.{sheet_call_law}
use Rattle.call_read_back.proofs.write_sheet.Goals as goal

pub returns-in-Some : goal.returns-in-Some
returns-in-Some c = λ os fine held. sheet_call_law _ _ _ _ refl _ _ c.untranslate.ensures os fine held _ _ _ _ _ c.in-Some.is (rw c.front.ensures at c.write_fields.ensures)

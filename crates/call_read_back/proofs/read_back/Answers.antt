use mathlib.Core.Path.{refl}
use Rattle.call.proofs.Refused.{told_refused}
use Rattle.call_read_back.proofs.Objects.{refused_call_law, good_call}
use Rattle.call_read_back.proofs.read_back.Goals as goal

pub returns-in-Err : goal.returns-in-Err
returns-in-Err c = rw c.refusal.ensures (refused_call_law _ _ _ (told_refused _ _ c.in-Err.ensures.replied))

pub returns-in-Ok : goal.returns-in-Ok
returns-in-Ok c = good_call _ _ _ _ c.in-Ok.ensures.replied _ _ _ _ refl (rw (c.front.ensures, c.in-Ok.ensures.ordered) at c.write_sheet.ensures)

use mathlib.Core.Path.{sym}
use native.Mathlib.Nat.{zero-add}
use Rattle.call.proofs.Texts.{told_written}
use Rattle.call_read_back.proofs.write_fields.Goals as goal

pub returns-in-Some : goal.returns-in-Some
returns-in-Some c = told_written 32 _ _ _ _ _ (sym (zero-add _)) (rw c.in-Some.is at c.write.ensures.replied) c.write.ensures.filled

pub returns-in-None : goal.returns-in-None
returns-in-None c = told_written 32 _ _ _ _ _ c.reply.ensures (rw c.in-None.is at c.write.ensures.replied) c.write.ensures.filled

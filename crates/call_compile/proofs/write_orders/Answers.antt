use mathlib.Core.Path.{sym}
use native.Mathlib.Nat.{zero-add}
use Rattle.call.proofs.Texts.{told_written}
use Rattle.call_compile.proofs.write_orders.Goals as goal

pub returns-in-Some : goal.returns-in-Some
returns-in-Some c = λ few. told_written 12 _ _ _ _ _ (sym (zero-add _)) (rw c.in-Some.is at (c.write.ensures.replied few)) (c.write.ensures.filled few)

pub returns-in-None : goal.returns-in-None
returns-in-None c = λ few. told_written 12 _ _ _ _ _ c.reply.ensures (rw c.in-None.is at (c.write.ensures.replied few)) (c.write.ensures.filled few)

use lib.ListN.{take}
use Rattle.translate.specs.Internal.{led_word}
use Rattle.translate.proofs.Tables.{Leading}
use Rattle.translate.proofs.lead_all.Given as goal

abbrev pub invariant-loop-w : goal.invariant-loop-w
invariant-loop-w l = Leading (led_word (take l.n l.firsts) l.last) l.initial.orders l.w-index l.orders

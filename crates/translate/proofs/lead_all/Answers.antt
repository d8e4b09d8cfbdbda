use mathlib.Core.Path.{ap}
use lib.ListN.{set}
use Rattle.translate.proofs.Tables.{lead_more, lead_ends}
use Rattle.translate.proofs.lead_all.Goals as goal

pub loop-w-preserved : goal.loop-w-preserved
loop-w-preserved c = lead_more _ _ _ _ c.loop-w.invariant c.loop-w-test.true _ (ap (set c.loop-w.orders c.loop-w.w-index) c.led.ensures)

pub returns : goal.returns
returns c = lead_ends _ _ _ _ c.loop-w.invariant c.loop-w-test.false

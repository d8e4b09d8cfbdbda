use Rattle.translate.proofs.Tables.{fill_more, fill_ends}
use Rattle.translate.proofs.note_firsts.Goals as goal

pub loop-i-preserved : goal.loop-i-preserved
loop-i-preserved c = fill_more _ _ _ _ _ _ _ _ c.loop-i.invariant c.loop-i-test.true _ c.order_in-o.ensures _ _ c.note-n.ensures _ c.is_last-here.ensures _ c.inner_behind-k.ensures

pub returns : goal.returns
returns c = fill_ends _ _ _ _ _ _ _ _ c.loop-i.invariant c.loop-i-test.false

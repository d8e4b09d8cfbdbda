use Rattle.translate.proofs.Translating.{over_room, whole_put}
use borrow.Author.Rules.{rules}
use borrow.Author.Rules.{rules}
use Rattle.translate.proofs.translate.Goals as goal

pub returns-then-out-n : goal.returns-then-out-n
returns-then-out-n c = over_room _ _ _ _ _ c.put_part-s.ensures (search rules) c.if-out-n.true

pub returns : goal.returns
returns c = whole_put _ _ _ _ _ c.put_part-s.ensures (search rules) c.if-out-n.false _ c.put_order.ensures _ _ c.finish.ensures

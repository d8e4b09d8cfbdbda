use Rattle.front_end_groups.proofs.Closing.{second_over, second_fits, comes_second}
use Rattle.front_end_groups.proofs.second_part.Goals as goal

pub returns-then-p-le1 : goal.returns-then-p-le1
returns-then-p-le1 c = λ q ns j x w hs h is. second_over h c.requires.0 c.args.k j x w hs is c.if-p-le1.true

pub returns-in_err-n : goal.returns-in_err-n
returns-in_err-n c = λ q ns j x w hs h is. second_fits h c.requires.0 c.args.k j x w hs is c.if-p-le1.false _ _ c.push.ensures.told c.push.ensures.kept c.in_err-n.was

pub returns : goal.returns
returns c = λ q ns j x w hs h is. comes_second h c.requires.0 c.args.k j x w hs is c.if-p-le1.false _ _ c.push.ensures.told c.push.ensures.kept _ c.in_ok-n.was _ c.put_off.ensures _ c.put_second.ensures

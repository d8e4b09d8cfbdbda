use Rattle.translate_size.proofs.Conditions.{try_none, try_ends}
use Rattle.translate_size.proofs.trying_size.Goals as goal

pub loop-s-init : goal.loop-s-init
loop-s-init c = try_none _ _

pub returns : goal.returns
returns c = try_ends _ _ _ c.loop-s.invariant c.loop-s-test.false

use mathlib.Core.Path.{refl}
use Rattle.base.proofs.Cases.{cases}
use Rattle.base.specs.Front.{on_front}
use Rattle.order_record.proofs.number_after.Goals as goal

pub returns-in_err-v : goal.returns-in_err-v
unfolding on_front
returns-in_err-v c = rw (c.from_residual.ensures, ← c.in_err-v.ensures.read) refl

pub returns-then-operand_of-v : goal.returns-then-operand_of-v
unfolding on_front
returns-then-operand_of-v c =
    rw (← c.in_ok-v.ensures.read, ← c.order_of-o.ensures, ← c.operand_of.ensures) (search cases depth 16)

pub returns-else-operand_of-v : goal.returns-else-operand_of-v
unfolding on_front
returns-else-operand_of-v c =
    rw (← c.in_ok-v.ensures.read, ← c.order_of-o.ensures, ← c.operand_of.ensures) (search cases depth 16)

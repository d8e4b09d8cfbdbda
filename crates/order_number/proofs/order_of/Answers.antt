use native.Mathlib.Omega.{arith}
use Rattle.order.proofs.Numbers.{no_order}
use Rattle.order_number.proofs.Numbering.{word_again, number_again}
use Rattle.order_number.proofs.order_of.Goals as goal

pub returns-in-12-to-23 : goal.returns-in-12-to-23
returns-in-12-to-23 c = rw c.operation.ensures (word_again c.args.k _ (omega arith) (omega arith))

pub returns-in-24-to-35 : goal.returns-in-24-to-35
returns-in-24-to-35 c = rw c.operation-in-24-to-35.ensures (number_again c.args.k _ (omega arith) (omega arith))

pub returns-in_default : goal.returns-in_default
returns-in_default c = no_order c.args.k _ (omega arith)

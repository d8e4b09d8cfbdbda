use Rattle.order.proofs.Numbers.{no_order}
use Rattle.order_number.proofs.order_in.Goals as goal

pub returns-then-k-ge38 : goal.returns-then-k-ge38
returns-then-k-ge38 c = no_order _ _ c.if-k-ge38.true

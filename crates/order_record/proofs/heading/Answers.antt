use native.Mathlib.Omega.{arith}
use mathlib.Core.Path.{◌≡◌, ap, sym, ◌∙◌}
use lib.ListN.{take}
use Rattle.base.specs.Text.{bytes}
use Rattle.order.specs.Memory.{order_of}
use Rattle.order.specs.Object.{heading}
use Rattle.order.proofs.Numbers.{no_order}
use Rattle.order_record.specs.Internal.{heading_rows}
use Rattle.order_record.proofs.Writing.{row_here, heading_long, heading_short}
use Rattle.order_record.proofs.heading.Goals as goal

pub returns-then-k-lt38 : goal.returns-then-k-lt38
unfolding bytes
returns-then-k-lt38 c =
    let row = row_here _ _ c.part.ensures c.if-k-lt38.true in
    record { row = row; some = rw row (heading_long _); few = rw row (heading_short _) }

pub returns : goal.returns
unfolding bytes
returns c =
    let stop : heading (order_of c.args.k 0) ≡ take 7 heading_rows = ap heading (sym (no_order _ 0 c.if-k-lt38.false)) in
    let row : c.part-2.result.now ≡ take 7 heading_rows = c.part-2.ensures in
    record { row = row ∙ sym stop; some = rw row (omega arith); few = rw row (omega arith) }

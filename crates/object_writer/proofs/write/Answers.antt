use mathlib.Core.Path.{ap, ◌∙◌}
use native.Mathlib.Omega.{arith}
use Rattle.text.specs.Internal.{put_all}
use Rattle.text.proofs.Writing.{write_short, write_whole}
use Rattle.order.specs.Memory.{orders_in}
use Rattle.order.specs.Object.{text}
use Rattle.object_writer.proofs.Writing.{put_text}
use Rattle.object_writer.proofs.write.Goals as goal

pub returns-then-orders : goal.returns-then-orders
returns-then-orders c =
    record { replied = λ few. absurd (omega (arith, few, c.if-orders.true)); filled = λ few. absurd (omega (arith, few, c.if-orders.true)) }

pub returns-then-buffer-total : goal.returns-then-buffer-total
returns-then-buffer-total c =
    let a = c.args in
    let all = text a.v a.t (orders_in a.orders.now) in
    let e = write_short 12 all a.buffer.now _ c.text_length-total.ensures (omega (arith, c.if-buffer-total.true)) in
    record { replied = λ few. e.0; filled = λ few. e.1 }

pub returns : goal.returns
returns c =
    let a = c.args in
    let put = c.put_records.ensures ∙ ap (put_all _) c.put_header-at.ensures ∙ put_text a.orders.now _ _ _ in
    let e = write_whole 12 _ _ _ c.text_length-total.ensures (omega (arith, c.if-buffer-total.false)) _ _ put in
    record { replied = λ few. e.0; filled = λ few. e.1 }

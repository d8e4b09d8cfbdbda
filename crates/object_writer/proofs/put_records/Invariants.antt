use mathlib.Core.Path.{◌≡◌}
use lib.ListN.{length}
use Rattle.text.specs.Internal.{placed, put_all}
use Rattle.order.specs.Memory.{orders_in}
use Rattle.order.specs.Object.{records_text}
use Rattle.object_writer.proofs.Writing.{left_text}
use Rattle.object_writer.proofs.put_records.Given as goal

abbrev pub invariant-loop-w : goal.invariant-loop-w
invariant-loop-w l = (put_all (left_text l.orders l.w-index) (placed l.j l.buffer) ≡ put_all (records_text (orders_in l.orders)) (placed l.at l.initial.buffer)) × (length l.buffer ≡ length l.initial.buffer)

use Prim.Native.Nat.{◌+◌, ◌*◌, ◌≤◌}
use mathlib.Core.Path.{◌≡◌}
use lib.ListN.{length}
use Rattle.order.specs.Memory.{orders_in}
use Rattle.order.specs.Object.{text}
use Rattle.object_writer.proofs.Writing.{left_text}
use Rattle.object_writer.proofs.text_length.Given as goal

-- a record is at most 18 bytes, the header 37
abbrev pub invariant-loop-w : goal.invariant-loop-w
invariant-loop-w l = (l.total + length (left_text l.orders l.w-index) ≡ length (text l.v l.t (orders_in l.orders))) × (l.total ≤ 37 + 18 * l.w-index)

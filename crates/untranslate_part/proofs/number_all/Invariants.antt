use Prim.Native.Nat.{◌+◌, ◌≤◌}
use mathlib.Core.Path.{◌≡◌}
use mathlib.Core.Bool.{true}
use lib.ListN.{length}
use lib.Seq.{sets}
use Rattle.order.specs.Memory.{orders_in}
use Rattle.untranslate_expression.specs.Internal.{orders_at}
use Rattle.untranslate_part.specs.Internal.{numbers}
use Rattle.untranslate_part.proofs.number_all.Given as goal

abbrev pub invariant-loop-i : goal.invariant-loop-i
invariant-loop-i l = (l.i ≤ length l.orders) × (l.n ≤ l.i + 1) × (length l.table ≡ length l.initial.table) × (sets l.table l.i (numbers l.first l.here l.k l.n (orders_at l.i l.orders)) ≡ sets l.initial.table 0 (numbers l.first true 0 1 (orders_in l.orders)))

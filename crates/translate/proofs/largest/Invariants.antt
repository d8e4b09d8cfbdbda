use Prim.Native.Nat.{max}
use mathlib.Core.Path.{◌≡◌}
use lib.ListN.{drop}
use Rattle.order.specs.Memory.{orders_in}
use Rattle.sheet.specs.Temporaries.{largest_stored}
use Rattle.translate.proofs.largest.Given as goal

abbrev pub invariant-loop-w : goal.invariant-loop-w
invariant-loop-w l = max l.t (largest_stored l.v (orders_in (drop l.w-index l.orders))) ≡ largest_stored l.v (orders_in l.orders)

use Prim.Native.Nat.{◌≤◌, max}
use mathlib.Core.Path.{◌≡◌}
use lib.ListN.{length}
use Rattle.untranslate_expression.specs.Internal.{orders_at}
use Rattle.untranslate_condition.specs.Internal.{branches_end}
use Rattle.untranslate_condition.proofs.past_branches.Given as goal

abbrev pub invariant-loop-k : goal.invariant-loop-k
invariant-loop-k l = (l.k ≤ max l.at (length l.orders)) × (branches_end l.left l.k (orders_at l.k l.orders) ≡ branches_end l.n l.at (orders_at l.at l.orders))

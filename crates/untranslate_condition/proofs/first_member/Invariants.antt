use Prim.Native.Nat.{◌≤◌, max}
use mathlib.Core.Path.{◌≡◌}
use lib.ListN.{length}
use Rattle.untranslate_expression.specs.Internal.{orders_at}
use Rattle.untranslate_condition.specs.Internal.{member_end}
use Rattle.untranslate_condition.proofs.first_member.Given as goal

abbrev pub invariant-loop-k : goal.invariant-loop-k
invariant-loop-k l = (l.k ≤ max l.p (length l.orders)) × (member_end (length l.orders) l.m l.k (orders_at l.k l.orders) ≡ member_end (length l.orders) 0 l.p (orders_at l.p l.orders))

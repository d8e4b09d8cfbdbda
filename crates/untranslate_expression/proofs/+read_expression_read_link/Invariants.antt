use Prim.Native.Nat.{◌+◌, ◌-◌, ◌*◌}
use mathlib.Core.Path.{◌≡◌}
use lib.ListN.{length}
use Rattle.untranslate_expression.specs.Internal.{Onwards}
use Rattle.untranslate_expression.proofs.+read_expression_read_link.Given as goal

abbrev pub decreases-read_expression : goal.decreases-read_expression
decreases-read_expression l = 2 * (length l.orders.now - l.at) + 2

abbrev pub decreases-read_link : goal.decreases-read_link
decreases-read_link l = 2 * (length l.orders.now - l.s.at) + 1

abbrev pub invariant-read_expression-loop-q : goal.invariant-read_expression-loop-q
invariant-read_expression-loop-q l = Onwards l.orders l.first l.word l.p l.leaf l.initial.s l.initial.fields l.q l.s l.fields × (length l.fields ≡ length l.initial.fields)

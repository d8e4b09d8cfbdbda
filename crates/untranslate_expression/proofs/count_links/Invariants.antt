use Prim.Native.Nat.{◌-◌}
use lib.ListN.{length}
use Rattle.untranslate_expression.specs.Internal.{Counting}
use Rattle.untranslate_expression.proofs.count_links.Given as goal

abbrev pub invariant-loop-j : goal.invariant-loop-j
invariant-loop-j l = Counting l.orders l.at l.first l.word l.j l.n

abbrev pub decreases-loop-j : goal.decreases-loop-j
decreases-loop-j l = length l.orders - l.j

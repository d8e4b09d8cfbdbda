use Prim.Native.Nat.{◌+◌, ◌-◌, ◌*◌}
use lib.ListN.{length}
use Rattle.translate_size.specs.Internal.{Outwards}
use Rattle.translate_size.proofs.+expression_size_step_size.Given as goal

abbrev pub decreases-expression_size : goal.decreases-expression_size
decreases-expression_size l = 2 * (length l.fields.now - l.at)

abbrev pub decreases-step_size : goal.decreases-step_size
decreases-step_size l = 2 * (length l.fields.now - l.s.at) + 1

abbrev pub invariant-expression_size-loop-j : goal.invariant-expression_size-loop-j
invariant-expression_size-loop-j l = Outwards l.fields l.at l.leaf l.initial.s l.j l.s

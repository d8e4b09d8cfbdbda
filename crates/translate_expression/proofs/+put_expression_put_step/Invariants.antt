use Prim.Native.Nat.{◌+◌, ◌-◌, ◌*◌}
use lib.ListN.{length}
use Rattle.translate_expression.specs.Internal.{Outwards}
use Rattle.translate_expression.proofs.+put_expression_put_step.Given as goal

abbrev pub decreases-put_expression : goal.decreases-put_expression
decreases-put_expression l = 2 * (length l.fields.now - l.at)

abbrev pub decreases-put_step : goal.decreases-put_step
decreases-put_step l = 2 * (length l.fields.now - l.s.at) + 1

abbrev pub invariant-put_expression-loop-j : goal.invariant-put_expression-loop-j
invariant-put_expression-loop-j l = Outwards l.fields l.at l.word l.initial.out l.leaf l.initial.s l.out l.j l.s

use Prim.Native.Nat.{◌-◌}
use Rattle.grammar_condition.proofs.Whole.{Following}
use Rattle.grammar_condition.proofs.condition.Given as goal

abbrev pub invariant-loop-w : goal.invariant-loop-w
invariant-loop-w l = Following l.tokens l.initial.fields l.initial.stack l.initial.s l.fields l.stack l.s

abbrev pub decreases-loop-w : goal.decreases-loop-w
decreases-loop-w l = l.tokens.count - l.s.at

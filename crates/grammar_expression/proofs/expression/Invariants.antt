use Prim.Native.Nat.{◌-◌}
use Rattle.grammar_expression.proofs.Whole.{Following}
use Rattle.grammar_expression.proofs.expression.Given as goal

abbrev pub invariant-loop-o : goal.invariant-loop-o
invariant-loop-o l = Following l.tokens l.initial.fields l.initial.stack l.initial.s l.fields l.stack l.s

abbrev pub decreases-loop-o : goal.decreases-loop-o
decreases-loop-o l = l.tokens.count - l.s.at

use Prim.Native.Nat.{◌-◌}
use Rattle.grammar_operand.proofs.Nesting.{Opening}
use Rattle.grammar_operand.proofs.operand.Given as goal

abbrev pub invariant-loop-f : goal.invariant-loop-f
invariant-loop-f l = Opening l.tokens l.initial.fields l.initial.stack l.initial.t l.fields l.stack l.t

abbrev pub decreases-loop-f : goal.decreases-loop-f
decreases-loop-f l = l.tokens.count - l.t.at

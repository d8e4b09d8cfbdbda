use Prim.Native.Nat.{◌-◌}
use Rattle.grammar_member.proofs.Levels.{Opening}
use Rattle.grammar_member.proofs.brackets.Given as goal

abbrev pub invariant-loop-stack : goal.invariant-loop-stack
invariant-loop-stack l = Opening l.tokens l.initial.stack l.initial.t l.stack l.t

abbrev pub decreases-loop-stack : goal.decreases-loop-stack
decreases-loop-stack l = l.tokens.count - l.t.at

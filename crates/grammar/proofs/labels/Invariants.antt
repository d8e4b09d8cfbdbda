use Prim.Native.Nat.{◌-◌, ◌*◌}
use Rattle.grammar.proofs.Statements.{Passed}
use Rattle.grammar.proofs.labels.Given as goal

abbrev pub invariant-loop-c : goal.invariant-loop-c
invariant-loop-c l = Passed l.tokens l.c

abbrev pub decreases-loop-c : goal.decreases-loop-c
decreases-loop-c l = l.tokens.count - 2 * l.c

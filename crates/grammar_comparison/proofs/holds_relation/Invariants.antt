use Prim.Native.Nat.{◌≤◌}
use mathlib.Core.Path.{◌≡◌}
use Rattle.source.specs.Grammar.{holds_relation}
use Rattle.grammar_look.specs.Internal.{ahead}
use Rattle.grammar_comparison.proofs.holds_relation.Given as goal

abbrev pub invariant-loop-i : goal.invariant-loop-i
invariant-loop-i l = (holds_relation l.d (ahead l.tokens l.i) ≡ holds_relation 0 (ahead l.tokens l.at)) × (l.d ≤ l.i)

use Prim.Native.Nat.{◌-◌}
use mathlib.Core.Path.{◌≡◌}
use Rattle.source.specs.Grammar.{is_name_list}
use Rattle.grammar_look.specs.Internal.{ahead}
use Rattle.grammar.proofs.is_name_list.Given as goal

abbrev pub invariant-loop-at : goal.invariant-loop-at
invariant-loop-at l = is_name_list (ahead l.tokens l.i) ≡ is_name_list (ahead l.tokens l.at)

abbrev pub decreases-loop-at : goal.decreases-loop-at
decreases-loop-at l = l.tokens.count - l.i

use mathlib.Core.Path.{◌≡◌}
use mathlib.Core.List.{◌∷◌, ◌++◌}
use lib.ListN.{take, drop}
use Rattle.grammar_output.proofs.insert.Given as goal

-- what is held stands before the fields that are not yet gone through
abbrev pub invariant-loop-slot : goal.invariant-loop-slot
invariant-loop-slot l = take l.slot-index l.slot-items ++ (l.held ∷ drop l.slot-index l.slot-items) ≡ l.initial.held ∷ l.initial.slot-items

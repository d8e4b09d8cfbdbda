use Prim.Native.Nat.{◌+◌, ◌≤◌}
use Rattle.name_index.specs.Answers.{side_at, word_at}
use Rattle.name_index.proofs.Search.{GoesOn}
use Rattle.name_index.proofs.find.Given as goal

abbrev pub invariant-loop-left : goal.invariant-loop-left
invariant-loop-left l = (l.from + l.left ≤ l.v) × (l.comparisons + l.left ≤ l.v) × GoesOn (side_at l.name l.letters l.index) (word_at l.index) l.v l.from l.left l.comparisons

abbrev pub decreases-loop-left : goal.decreases-loop-left
decreases-loop-left l = l.left

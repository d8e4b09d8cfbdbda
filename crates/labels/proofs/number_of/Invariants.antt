use Prim.Native.Nat.{◌-◌}
use mathlib.Core.Path.{◌≡◌}
use lib.ListN.{get_or}
use Rattle.base.specs.Places.{each}
use Rattle.labels.specs.Memory.{label_in, labels_of}
use Rattle.labels.specs.Answers.{found_of}
use Rattle.labels.proofs.number_of.Given as goal

abbrev pub invariant-loop-i : goal.invariant-loop-i
invariant-loop-i l = found_of l.next (each (λ j. label_in l.next (get_or l.labels j 0)) l.i (l.count - l.i)) l.l ≡ found_of l.next (labels_of l.next l.count l.labels) l.l

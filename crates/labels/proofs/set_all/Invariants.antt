use Prim.Native.Nat.{◌+◌, ◌≤◌, ◌<◌}
use mathlib.Core.Path.{◌≡◌}
use lib.ListN.{length}
use Rattle.labels.specs.Memory.{label_here, labels_at}
use Rattle.labels.specs.Internal.{Room, Loop}
use Rattle.labels.proofs.Setting.{left}
use Rattle.labels.proofs.set_all.Given as goal

abbrev pub invariant-loop-i : goal.invariant-loop-i
invariant-loop-i l = (length l.labels ≡ length l.initial.labels) × (l.i ≤ l.set) × (l.set < 4294967296) × (Room l.initial.labels (l.count + length (labels_at l.many l.tokens.kinds.now l.tokens.values.now)) l.next → Loop l.initial.labels l.count l.next (labels_at l.many l.tokens.kinds.now l.tokens.values.now) (left l.initial.labels l.count l.next (label_here l.tokens.kinds.now l.tokens.values.now) l.many l.i) l.set l.i l.labels)

use Prim.Native.Nat.{◌+◌, ◌-◌}
use mathlib.Core.Path.{◌≡◌}
use lib.ListN.{length}
use Rattle.front_end_forms.specs.Memory.{table_of}
use Rattle.front_end.specs.Internal.{Going}
use Rattle.front_end.proofs.read_statements.Given as goal

abbrev pub invariant-loop-at : goal.invariant-loop-at
invariant-loop-at l = (length l.letters ≡ length l.initial.letters) × (length l.index ≡ length l.initial.index) × (length l.labels ≡ length l.initial.labels) × (length l.groups ≡ length l.initial.groups) × (length l.fields ≡ length l.initial.fields) × Going l.source l.at l.k l.p (table_of l.letters l.index) l.labels l.groups l.fields

abbrev pub decreases-loop-at : goal.decreases-loop-at
decreases-loop-at l = length l.source + 1 - l.at

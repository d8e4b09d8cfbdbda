use mathlib.Core.Path.{◌≡◌}
use Prim.Native.Nat.{◌≤◌, ◌<◌}
use lib.ListN.{length}
use Rattle.name_index.specs.Internal.{Shifted}
use Rattle.name_index.proofs.insert.Given as goal

abbrev pub invariant-loop-i : goal.invariant-loop-i
invariant-loop-i l = (length l.index ≡ length l.initial.index) × (l.place ≤ l.v → l.v < length l.initial.index → Shifted l.v l.place l.i l.initial.index l.index)

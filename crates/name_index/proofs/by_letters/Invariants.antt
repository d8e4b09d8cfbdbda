use Prim.Native.Nat.{◌≤◌, ◌<◌}
use mathlib.Core.Path.{◌≡◌}
use lib.ListN.{length}
use Rattle.source.specs.Limits.{most_cells}
use Rattle.name_index.specs.Order.{side_of}
use Rattle.name_index.proofs.Order.{decided_from}
use Rattle.name_index.proofs.by_letters.Given as goal

abbrev pub invariant-loop-i : goal.invariant-loop-i
invariant-loop-i l = (length l.a ≡ length l.b) × (length l.b < most_cells) × (l.i ≤ length l.a) × (l.last ≤ l.i) × (decided_from l.a l.b l.i l.last ≡ side_of l.a l.b)

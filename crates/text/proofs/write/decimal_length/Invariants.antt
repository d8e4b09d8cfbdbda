use Prim.Native.Nat.{◌+◌, ◌<◌}
use mathlib.Core.Path.{◌≡◌}
use lib.ListN.{length}
use Rattle.text.specs.Pieces.{decimal}
use Rattle.text.proofs.write.decimal_length.Given as goal

abbrev pub invariant-loop-x : goal.invariant-loop-x
invariant-loop-x l = (l.digits + length (decimal l.x) ≡ 1 + length (decimal l.n)) × (l.x < 4294967296)

abbrev pub decreases-loop-x : goal.decreases-loop-x
decreases-loop-x l = l.x

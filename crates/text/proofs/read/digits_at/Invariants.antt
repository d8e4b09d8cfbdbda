use Prim.Native.Nat.{◌≤◌}
use mathlib.Core.Path.{◌≡◌}
use lib.ListN.{drop}
use Rattle.text.specs.Pieces.{digits, greatest_number}
use Rattle.text.proofs.read.digits_at.Given as goal

abbrev pub invariant-loop-i : goal.invariant-loop-i
invariant-loop-i l = (digits l.close l.v (drop l.i l.s) ≡ digits l.close l.first (drop l.at l.s)) × (l.v ≤ greatest_number)

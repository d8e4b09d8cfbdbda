use Prim.Native.Nat.{◌+◌, ◌*◌, ◌-◌}
use lib.ListN.{length}
use Rattle.translate_size.proofs.Conditions.{Tried}
use Rattle.translate_size.proofs.trying_size.Given as goal

abbrev pub invariant-loop-s : goal.invariant-loop-s
invariant-loop-s l = Tried l.fields l.at l.s

abbrev pub decreases-loop-s : goal.decreases-loop-s
decreases-loop-s l = 2 * (length l.fields - l.s.at) + l.s.left

use Prim.Native.Nat.{◌+◌, ◌-◌, ◌*◌}
use mathlib.Core.Path.{◌≡◌}
use lib.ListN.{length}
use Rattle.untranslate_part.proofs.Turns.{Reached}
use Rattle.untranslate_part.proofs.+read_group_read_if_read_one_read_part.Given as goal

abbrev pub decreases-read_group : goal.decreases-read_group
decreases-read_group l = 4 * l.deep + 4

abbrev pub decreases-read_if : goal.decreases-read_if
decreases-read_if l = 4 * l.deep + 1

abbrev pub decreases-read_one : goal.decreases-read_one
decreases-read_one l = 4 * l.deep + 2

abbrev pub decreases-read_part : goal.decreases-read_part
decreases-read_part l = 4 * l.deep + 3

abbrev pub invariant-read_part-loop-s : goal.invariant-read_part-loop-s
invariant-read_part-loop-s l = Reached l.orders l.table l.at l.end l.first l.deep l.initial.fields l.n l.s l.fields × (length l.fields ≡ length l.initial.fields)

abbrev pub decreases-read_part-loop-s : goal.decreases-read_part-loop-s
decreases-read_part-loop-s l = l.end - l.s.at

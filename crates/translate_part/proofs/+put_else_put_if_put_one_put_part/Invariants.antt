use Prim.Native.Nat.{◌+◌, ◌*◌, ◌-◌}
use lib.ListN.{length}
use Rattle.translate_part.proofs.Turns.{Loop}
use Rattle.translate_part.proofs.+put_else_put_if_put_one_put_part.Given as goal

abbrev pub decreases-put_else : goal.decreases-put_else
decreases-put_else l = 4 * (length l.fields.now - l.x.at) + 2

abbrev pub decreases-put_if : goal.decreases-put_if
decreases-put_if l = 4 * (length l.fields.now - l.at) + 3

abbrev pub decreases-put_one : goal.decreases-put_one
decreases-put_one l = 4 * (length l.fields.now - l.s.at)

abbrev pub decreases-put_part : goal.decreases-put_part
decreases-put_part l = 4 * (length l.fields.now - l.at) + 1

abbrev pub invariant-put_part-loop-r : goal.invariant-put_part-loop-r
invariant-put_part-loop-r l = Loop l.fields l.word l.initial.s l.initial.out l.s l.out

abbrev pub decreases-put_part-loop-r : goal.decreases-put_part-loop-r
decreases-put_part-loop-r l = length l.fields - l.s.at

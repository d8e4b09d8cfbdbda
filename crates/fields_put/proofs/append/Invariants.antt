use Rattle.fields_put.proofs.Putting.{Loop}
use Rattle.fields_put.proofs.append.Given as goal

abbrev pub invariant-loop-i : goal.invariant-loop-i
invariant-loop-i l = Loop l.k l.own l.at l.initial.fields l.i l.fields

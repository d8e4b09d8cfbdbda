use Rattle.sheet_line.proofs.Scans.{Gone}
use Rattle.sheet_line.proofs.is_rest.Given as goal

abbrev pub invariant-loop-i : goal.invariant-loop-i
invariant-loop-i l = Gone l.fields l.w l.at l.k l.i

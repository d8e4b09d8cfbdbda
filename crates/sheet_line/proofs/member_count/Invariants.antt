use Rattle.sheet_line.proofs.Scans.{Over}
use Rattle.sheet_line.proofs.member_count.Given as goal

abbrev pub invariant-loop-i : goal.invariant-loop-i
invariant-loop-i l = Over l.fields l.w l.at l.run.more l.run.members l.i

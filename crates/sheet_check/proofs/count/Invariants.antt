use Rattle.sheet_check.proofs.Passes.{Counting}
use Rattle.sheet_check.proofs.count.Given as goal

abbrev pub invariant-loop-w : goal.invariant-loop-w
invariant-loop-w l = Counting l.fields l.w-index l.n

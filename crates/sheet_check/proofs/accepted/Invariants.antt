use Rattle.sheet_check.proofs.Passes.{Passing}
use Rattle.sheet_check.proofs.accepted.Given as goal

abbrev pub invariant-loop-w : goal.invariant-loop-w
invariant-loop-w l = Passing l.v l.n l.fields l.w-index l.s

use Rattle.untranslate.proofs.Again.{Comparing}
use Rattle.untranslate.proofs.same.Given as goal

abbrev pub invariant-loop-i : goal.invariant-loop-i
invariant-loop-i l = Comparing l.front l.words l.i

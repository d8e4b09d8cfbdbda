use Rattle.tokens_constant.proofs.Constants.{Digits}
use Rattle.tokens_constant.proofs.decimal_from.Given as goal

abbrev pub invariant-loop-i : goal.invariant-loop-i
invariant-loop-i l = Digits l.cells l.at l.first l.i l.v

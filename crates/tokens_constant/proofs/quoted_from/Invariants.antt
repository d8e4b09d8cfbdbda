use Rattle.tokens_constant.proofs.Constants.{Characters}
use Rattle.tokens_constant.proofs.quoted_from.Given as goal

abbrev pub invariant-loop-count : goal.invariant-loop-count
invariant-loop-count l = Characters l.cells l.at l.i l.v l.count

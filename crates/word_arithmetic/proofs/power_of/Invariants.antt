use Rattle.word_arithmetic.proofs.Squaring.{Loop}
use Rattle.word_arithmetic.proofs.power_of.Given as goal

abbrev pub invariant-loop-left : goal.invariant-loop-left
invariant-loop-left l = Loop l.a l.n l.acc l.base l.left l.products

abbrev pub decreases-loop-left : goal.decreases-loop-left
decreases-loop-left l = l.left
